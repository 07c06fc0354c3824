use Rattle.tree_growth.proofs.Valid.{promoted_pair}
use Rattle.tree_growth.proofs.laws.promoted_is_pair.Goals as goal

pub returns : goal.returns
returns c = promoted_pair
