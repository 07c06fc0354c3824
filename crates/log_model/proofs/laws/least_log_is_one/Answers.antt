use Rattle.log_model.proofs.LeastLog.{least_one}
use Rattle.log_model.proofs.laws.least_log_is_one.Goals as goal

pub returns : goal.returns
returns c = least_one
