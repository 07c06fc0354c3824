use Rattle.shadow_root.proofs.Beside.{in_place_is_written}
use Rattle.shadow_root.proofs.laws.in_place_is_written.Goals as goal

pub returns : goal.returns
returns c = in_place_is_written
