use Rattle.std.proofs.Common.{◌≡◌, ◌++◌, map, reverse, vec_len}
use Rattle.metric_join.specs.Steps.{following}
use Rattle.metric_join.proofs.walking.put_on_top.Given as goal

-- what is off one list is on the other
abbrev pub invariant-loop-need : goal.invariant-loop-need
invariant-loop-need l = map (following l.waiting) l.left.items ++ reverse l.stack.items ≡ map (following l.waiting) l.fn.needs.items ++ reverse l.fn.stack.items

abbrev pub decreases-loop-need : goal.decreases-loop-need
decreases-loop-need l = vec_len l.left
