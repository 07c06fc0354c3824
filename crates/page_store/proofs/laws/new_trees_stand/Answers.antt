use Rattle.page_store.proofs.Following.{new_stands}
use Rattle.page_store.proofs.laws.new_trees_stand.Goals as goal

pub returns : goal.returns
returns c = new_stands
