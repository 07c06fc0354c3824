use Rattle.tree_growth.proofs.Turns.{objects_take_nearest}
use Rattle.tree_growth.proofs.laws.objects_take_nearest.Goals as goal

pub returns : goal.returns
returns c = objects_take_nearest
