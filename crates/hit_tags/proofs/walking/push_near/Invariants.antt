use Rattle.std.proofs.Common.{◌≡◌, ◌++◌, map, drop, reverse}
use Rattle.log_model.specs.Walk.{near_ones}
use Rattle.hit_tags.proofs.walking.push_near.Given as goal

-- the pages of the subtrees from this one on are on the stack
abbrev pub invariant-loop-i : goal.invariant-loop-i
invariant-loop-i l = reverse l.stack.items ≡ map (λ e. e.child) (near_ones (drop l.i l.entries) (drop l.i l.marks)) ++ reverse l.fn.stack.items
