use Rattle.free_pages.proofs.WholeWalk.{whole_walk}
use Rattle.free_pages.proofs.laws.whole_trees_are_walked.Goals as goal

pub returns : goal.returns
returns c = whole_walk
