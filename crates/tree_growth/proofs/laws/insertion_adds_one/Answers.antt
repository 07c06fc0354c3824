use Rattle.tree_growth.proofs.Added.{insertion_adds_one}
use Rattle.tree_growth.proofs.laws.insertion_adds_one.Goals as goal

pub returns : goal.returns
returns c = insertion_adds_one
