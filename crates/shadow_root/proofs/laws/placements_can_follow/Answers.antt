use Rattle.shadow_root.proofs.Beside.{placements_can_follow}
use Rattle.shadow_root.proofs.laws.placements_can_follow.Goals as goal

pub returns : goal.returns
returns c = placements_can_follow
