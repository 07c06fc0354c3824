use Rattle.seal_log.proofs.Showing.{shows}
use Rattle.seal_log.proofs.laws.accepted_logs_show_answers.Goals as goal

pub returns : goal.returns
returns c = shows
