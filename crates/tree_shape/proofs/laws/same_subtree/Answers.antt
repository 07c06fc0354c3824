use Rattle.tree_shape.proofs.Within.{objects_stay, same_pages, still_sound}
use Rattle.tree_shape.proofs.laws.same_subtree.Goals as goal

pub returns : goal.returns
returns c s old new h page agree = (objects_stay old new h page agree, same_pages old new h page agree, still_sound old new s h page agree)
