use Rattle.tree_growth.proofs.Parted.{partition_is_fair}
use Rattle.tree_growth.proofs.laws.partition_is_fair.Goals as goal

pub returns : goal.returns
returns c = partition_is_fair
