use Rattle.std.proofs.Common.{arith}
use Rattle.scan_model.proofs.ScanLemmas.{all_found}
use Rattle.scan_model.proofs.scan.hits_within.Goals as goal

pub returns : goal.returns
returns g c =
    all_found (g.M.Metric.space c.args.m.now) c.args.rows.now.points c.args.q.now c.args.r c.loop-id.id c.loop-id.hits.items
    (omega arith) c.loop-id.invariant
