use Rattle.tree_shape.proofs.Within.{objects_fit}
use Rattle.tree_shape.proofs.laws.objects_fit.Goals as goal

pub returns : goal.returns
returns c = objects_fit
