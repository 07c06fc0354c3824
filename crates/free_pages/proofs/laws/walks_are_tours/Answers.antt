use Rattle.free_pages.proofs.Toured.{walks_are_tours}
use Rattle.free_pages.proofs.laws.walks_are_tours.Goals as goal

pub returns : goal.returns
returns c = walks_are_tours
