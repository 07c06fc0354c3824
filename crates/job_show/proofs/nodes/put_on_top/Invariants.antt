use Rattle.std.proofs.Common.{◌≡◌, ◌++◌, reverse, vec_len}
use Rattle.job_show.proofs.nodes.put_on_top.Given as goal

-- what is off one list is on the other
abbrev pub invariant-loop-coming : goal.invariant-loop-coming
invariant-loop-coming l = l.needs.items ++ reverse l.stack.items ≡ l.fn.needs.items ++ reverse l.fn.stack.items

abbrev pub decreases-loop-coming : goal.decreases-loop-coming
decreases-loop-coming l = vec_len l.needs
