use Rattle.tree_growth.proofs.Loaded.{load_keeps_objects}
use Rattle.tree_growth.proofs.laws.load_keeps_objects.Goals as goal

pub returns : goal.returns
returns c = load_keeps_objects
