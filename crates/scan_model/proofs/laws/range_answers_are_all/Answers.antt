use Rattle.scan_model.proofs.RangeLaw.{range_answers}
use Rattle.scan_model.proofs.laws.range_answers_are_all.Goals as goal

pub returns : goal.returns
returns c = range_answers
