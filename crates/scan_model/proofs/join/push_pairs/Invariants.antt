use Rattle.std.proofs.Common.{◌≡◌, ◌++◌, drop}
use Rattle.std.specs.Prelude.{filter}
use Rattle.scan_model.specs.Join.{pairs_from, is_close}
use Rattle.scan_model.proofs.join.push_pairs.Given as goal

-- the pairs so far and those with the other right points are all pairs
abbrev pub invariant-loop-right : goal.invariant-loop-right
invariant-loop-right g l =
    l.pairs.items ++ filter (is_close l.r) (pairs_from (g.M.Metric.space l.m) l.left l.p l.right (drop l.right l.rows.points))
    ≡ l.fn.pairs.items ++ filter (is_close l.r) (pairs_from (g.M.Metric.space l.m) l.left l.p 0 l.rows.points)
