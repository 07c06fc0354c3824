use Rattle.page_store.proofs.OneTour.{one_course}
use Rattle.page_store.proofs.laws.tour_has_one_course.Goals as goal

pub returns : goal.returns
returns c = one_course
