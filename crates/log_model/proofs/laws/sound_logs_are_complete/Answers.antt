use Rattle.log_model.proofs.LeastLog.{sound_complete}
use Rattle.log_model.proofs.laws.sound_logs_are_complete.Goals as goal

pub returns : goal.returns
returns c = sound_complete
