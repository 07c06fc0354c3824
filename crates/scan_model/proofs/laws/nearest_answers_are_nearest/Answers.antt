use Rattle.scan_model.proofs.NearestLaw.{nearest_answers}
use Rattle.scan_model.proofs.laws.nearest_answers_are_nearest.Goals as goal

pub returns : goal.returns
returns c = nearest_answers
