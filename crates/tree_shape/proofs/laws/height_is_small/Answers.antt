use Rattle.tree_shape.proofs.Height.{height_is_small}
use Rattle.tree_shape.proofs.laws.height_is_small.Goals as goal

pub returns : goal.returns
returns c = height_is_small
