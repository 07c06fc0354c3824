use Rattle.free_pages.proofs.Commits.{placements_exchange}
use Rattle.free_pages.proofs.laws.placements_exchange.Goals as goal

pub returns : goal.returns
returns c = placements_exchange
