use Rattle.free_pages.proofs.Commits.{guard}
use Rattle.free_pages.proofs.laws.pins_guard.Goals as goal

pub returns : goal.returns
returns c = guard
