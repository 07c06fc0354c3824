use Rattle.tree_growth.proofs.Sized.{groups_are_sized}
use Rattle.tree_growth.proofs.laws.groups_are_sized.Goals as goal

pub returns : goal.returns
returns c = groups_are_sized
