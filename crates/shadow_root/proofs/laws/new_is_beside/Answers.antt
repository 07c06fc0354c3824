use Rattle.shadow_root.proofs.Beside.{new_is_beside}
use Rattle.shadow_root.proofs.laws.new_is_beside.Goals as goal

pub returns : goal.returns
returns c = new_is_beside
