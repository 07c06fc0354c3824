use Rattle.log_model.proofs.JoinLeast.{join_least_one}
use Rattle.log_model.proofs.laws.least_join_log_is_one.Goals as goal

pub returns : goal.returns
returns c = join_least_one
