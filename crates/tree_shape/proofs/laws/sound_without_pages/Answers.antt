use Rattle.tree_shape.proofs.Bare.{sound_without_pages}
use Rattle.tree_shape.proofs.laws.sound_without_pages.Goals as goal

pub returns : goal.returns
returns c = sound_without_pages
