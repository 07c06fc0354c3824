use Rattle.free_pages.proofs.Commits.{free_numbers}
use Rattle.free_pages.proofs.laws.free_pages_are_numbers.Goals as goal

pub returns : goal.returns
returns c = free_numbers
