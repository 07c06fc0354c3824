use Rattle.tree_growth.proofs.Valid.{insertion_keeps_sound}
use Rattle.tree_growth.proofs.laws.insertion_keeps_sound.Goals as goal

pub returns : goal.returns
returns c = insertion_keeps_sound
