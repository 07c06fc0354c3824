use Rattle.log_model.proofs.LeastLog.{least_sound}
use Rattle.log_model.proofs.laws.least_logs_are_sound.Goals as goal

pub returns : goal.returns
returns c = least_sound
