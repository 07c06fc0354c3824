use Rattle.range_search.proofs.OneCourse.{one_course}
use Rattle.range_search.proofs.laws.walk_has_one_course.Goals as goal

pub returns : goal.returns
returns c = one_course
