use Rattle.seal_log.proofs.Accepting.{accepted}
use Rattle.seal_log.proofs.laws.carried_logs_are_accepted.Goals as goal

pub returns : goal.returns
returns c = accepted
