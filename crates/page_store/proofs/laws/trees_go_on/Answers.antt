use Rattle.page_store.proofs.Following.{go_on}
use Rattle.page_store.proofs.laws.trees_go_on.Goals as goal

pub returns : goal.returns
returns c = go_on
