use Rattle.log_model.proofs.JoinLeast.{join_least_sound}
use Rattle.log_model.proofs.laws.least_join_logs_are_sound.Goals as goal

pub returns : goal.returns
returns c = join_least_sound
