use Rattle.std.proofs.Common.{◌≡◌, ◌++◌, map, drop, reverse}
use Rattle.tree_outline.specs.Shapes.{named_by}
use Rattle.tree_outline.proofs.outline.put_on_top.Given as goal

-- the nodes that the entries from this one on name are on top
abbrev pub invariant-loop-index : goal.invariant-loop-index
invariant-loop-index l = reverse l.coming.items ≡ map named_by (drop l.index l.entries) ++ reverse l.fn.coming.items
