use Rattle.page_store.proofs.SoundTour.{sound_is_toured}
use Rattle.page_store.proofs.laws.sound_trees_are_toured.Goals as goal

pub returns : goal.returns
returns c = sound_is_toured
