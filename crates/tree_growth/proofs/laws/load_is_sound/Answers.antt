use Rattle.tree_growth.proofs.LoadSound.{load_is_sound}
use Rattle.tree_growth.proofs.laws.load_is_sound.Goals as goal

pub returns : goal.returns
returns c = load_is_sound
