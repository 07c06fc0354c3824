use Rattle.std.proofs.Common.{None}
use Rattle.seal_log.proofs.CarriedFiles.{pages-ascend, pages-sized}
use Rattle.seal_log.proofs.OpenedFiles.{valid-dim}
use Rattle.seal_log.proofs.carried.Carried.node_on.Goals as goal

pub page_bytes-bytes-requires-clause-ascend : goal.page_bytes-bytes-requires-clause-ascend
page_bytes-bytes-requires-clause-ascend c = rw c.as_slice.ensures (pages-ascend c.self.inside.live.pages None c.self.inside.pages c.self.invariant.parts.in_place)

pub page_bytes-bytes-requires-clause-size : goal.page_bytes-bytes-requires-clause-size
page_bytes-bytes-requires-clause-size c = rw c.as_slice.ensures (pages-sized c.self.inside.pages c.self.invariant.parts.each)

pub node_on-requires-clause-some : goal.node_on-requires-clause-some
node_on-requires-clause-some c = (valid-dim c.self.inside.head c.self.invariant.opens.spells_head.valid).0

pub node_on-requires-clause-few : goal.node_on-requires-clause-few
node_on-requires-clause-few c = (valid-dim c.self.inside.head c.self.invariant.opens.spells_head.valid).1
