use Rattle.job_show.proofs.Wholeness.{object_holds, subtree_holds}
use Rattle.job_show.proofs.laws.allowed_marks_hold.Goals as goal

pub returns : goal.returns
returns c f above = (object_holds f above, subtree_holds f above)
