use Rattle.job_show_joins.proofs.PairReasons.{pair_holds}
use Rattle.job_show_joins.proofs.laws.allowed_pair_marks_hold.Goals as goal

pub returns : goal.returns
returns c = pair_holds
