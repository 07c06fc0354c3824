use Rattle.page_store.proofs.Following.{placements_new}
use Rattle.page_store.proofs.laws.placements_are_new.Goals as goal

pub returns : goal.returns
returns c = placements_new
