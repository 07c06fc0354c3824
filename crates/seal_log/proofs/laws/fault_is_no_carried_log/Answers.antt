use Rattle.seal_log.proofs.Faultless.{bytes_made, made_bytes}
use Rattle.seal_log.proofs.laws.fault_is_no_carried_log.Goals as goal

pub returns : goal.returns
returns c root bytes is_point = (bytes_made root bytes is_point, λ found. made_bytes root bytes found.0 found.1 found.2 found.3)
