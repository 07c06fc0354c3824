use Rattle.tree_growth.proofs.Turns.{seeds_stay}
use Rattle.tree_growth.proofs.laws.seeds_stay.Goals as goal

pub returns : goal.returns
returns c = seeds_stay
