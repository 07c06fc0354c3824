use Rattle.std.proofs.Common.{◌≡◌, ◌++◌, reverse, vec_len}
use Rattle.log_verify.proofs.walking.put_on_top.Given as goal

-- what is off one list is on the other
abbrev pub invariant-loop-need : goal.invariant-loop-need
invariant-loop-need g l = l.needs.items ++ reverse l.stack.items ≡ l.fn.needs.items ++ reverse l.fn.stack.items

abbrev pub decreases-loop-need : goal.decreases-loop-need
decreases-loop-need g l = vec_len l.needs
