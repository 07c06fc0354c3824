use Rattle.std.proofs.Common.{◌≡◌, ◌++◌, map, drop, reverse}
use Rattle.tree_shape.specs.declared.entry.InnerEntry.{InnerEntry}
use Rattle.page_tour.proofs.tour.push_children.Given as goal

-- the pages of the entries from this one on are on the stack
abbrev pub invariant-loop-index : goal.invariant-loop-index
invariant-loop-index l = reverse l.stack.items ≡ map (λ (e : InnerEntry). e.child) (drop l.index l.entries) ++ reverse l.fn.stack.items
