use Rattle.log_verify.proofs.Soundness.{sound_from_none, none_from_sound}
use Rattle.log_verify.proofs.laws.faults_are_unsoundness.Goals as goal

pub returns : goal.returns
returns c s read live log = (sound_from_none s read live log, none_from_sound s read live log)
