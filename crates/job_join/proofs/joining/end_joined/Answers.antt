use Rattle.std.proofs.Common.{inr}
use Rattle.job_join.proofs.joining.end_joined.Goals as goal

pub returns-in-Ok-put-clause-cut : goal.returns-in-Ok-put-clause-cut
returns-in-Ok-put-clause-cut g c = λ is.
    inr (rw (c.deref.ensures.value, c.in-Ok.ensures.framed) at c.in-Ok-put.ensures.ok, (rw (c.deref-in-Ok-put.ensures.value, c.in-Ok.ensures.lines, c.requires.pairs) at c.put_line.ensures.part) is)
