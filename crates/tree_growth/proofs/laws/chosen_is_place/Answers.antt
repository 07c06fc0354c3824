use Rattle.tree_growth.proofs.Added.{chosen_low}
use Rattle.tree_growth.proofs.laws.chosen_is_place.Goals as goal

pub returns : goal.returns
returns c = chosen_low
