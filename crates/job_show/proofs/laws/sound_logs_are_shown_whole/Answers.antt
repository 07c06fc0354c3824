use Rattle.job_show.proofs.Wholeness.{sound_whole}
use Rattle.job_show.proofs.laws.sound_logs_are_shown_whole.Goals as goal

pub returns : goal.returns
returns c = sound_whole
