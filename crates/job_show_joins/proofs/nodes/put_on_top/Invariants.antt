use Rattle.std.proofs.Common.{◌≡◌, ◌++◌, map, reverse, vec_len}
use Rattle.job_show_joins.specs.Walks.{coming_at}
use Rattle.job_show_joins.proofs.nodes.put_on_top.Given as goal

-- what is off one list is on the other
abbrev pub invariant-loop-need : goal.invariant-loop-need
invariant-loop-need l = map (coming_at l.depth) l.needs.items ++ reverse l.stack.items ≡ map (coming_at l.depth) l.fn.needs.items ++ reverse l.fn.stack.items

abbrev pub decreases-loop-need : goal.decreases-loop-need
decreases-loop-need l = vec_len l.needs
