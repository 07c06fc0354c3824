use Rattle.tree_shape.proofs.Reading.{same_objects}
use Rattle.tree_shape.proofs.laws.same_objects.Goals as goal

pub returns : goal.returns
returns c = same_objects
