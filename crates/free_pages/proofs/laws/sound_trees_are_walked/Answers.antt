use Rattle.free_pages.proofs.SoundWalk.{sound_walk}
use Rattle.free_pages.proofs.laws.sound_trees_are_walked.Goals as goal

pub returns : goal.returns
returns c = sound_walk
