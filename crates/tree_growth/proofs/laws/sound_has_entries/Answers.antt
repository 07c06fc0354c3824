use Rattle.tree_growth.proofs.Entries.{sound_has_entries}
use Rattle.tree_growth.proofs.laws.sound_has_entries.Goals as goal

pub returns : goal.returns
returns c = sound_has_entries
