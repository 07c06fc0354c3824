use Rattle.log_verify.proofs.JoinSoundness.{join_sound_from_none, join_none_from_sound}
use Rattle.log_verify.proofs.laws.join_faults_are_unsoundness.Goals as goal

pub returns : goal.returns
returns c s left right l r log = (join_sound_from_none s left right l r log, join_none_from_sound s left right l r log)
