use Rattle.std.proofs.Common.{None}
use Rattle.seal_log.proofs.CarriedFiles.{pages-ascend}
use Rattle.seal_log.proofs.carried.Carried.missing.Goals as goal

pub first_missing-requires : goal.first_missing-requires
first_missing-requires c = rw c.as_slice.ensures (pages-ascend c.self.inside.live.pages None c.self.inside.pages c.self.invariant.parts.in_place)
