use Rattle.log_model.proofs.JoinScan.{join_complete}
use Rattle.log_model.proofs.laws.sound_join_logs_are_complete.Goals as goal

pub returns : goal.returns
returns c = join_complete
