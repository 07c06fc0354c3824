use Rattle.page_store.proofs.Whole.{stand_on_pages}
use Rattle.page_store.proofs.laws.trees_stand_on_pages.Goals as goal

pub returns : goal.returns
returns c = stand_on_pages
