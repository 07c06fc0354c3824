use Rattle.std.proofs.Common.{arith}
use Rattle.scan_model.proofs.JoinLemmas.{all_pushed}
use Rattle.scan_model.proofs.join.push_pairs.Goals as goal

pub returns : goal.returns
returns g c =
    all_pushed (g.M.Metric.space c.args.m.now) c.args.left c.args.p.now c.args.rows.now.points c.args.r c.loop-right.right
    c.args.pairs.now.items c.loop-right.pairs.items (omega arith) c.loop-right.invariant
