use Rattle.page_store.proofs.Whole.{sound_is_whole}
use Rattle.page_store.proofs.laws.sound_trees_are_whole.Goals as goal

pub returns : goal.returns
returns c = sound_is_whole
