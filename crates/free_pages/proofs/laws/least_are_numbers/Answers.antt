use Rattle.free_pages.proofs.Ascending.{least_numbers}
use Rattle.free_pages.proofs.laws.least_are_numbers.Goals as goal

pub returns : goal.returns
returns c = least_numbers
