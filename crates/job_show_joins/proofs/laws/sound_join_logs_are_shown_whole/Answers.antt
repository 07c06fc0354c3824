use Rattle.job_show_joins.proofs.PairWholeness.{sound_whole}
use Rattle.job_show_joins.proofs.laws.sound_join_logs_are_shown_whole.Goals as goal

pub returns : goal.returns
returns c = sound_whole
