use Rattle.scan_model.proofs.JoinLaw.{join_answers}
use Rattle.scan_model.proofs.laws.join_answers_are_all.Goals as goal

pub returns : goal.returns
returns c = join_answers
