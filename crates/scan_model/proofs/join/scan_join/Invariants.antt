use Rattle.std.proofs.Common.{◌≡◌, ◌++◌, drop}
use Rattle.std.specs.Prelude.{filter}
use Rattle.scan_model.specs.Join.{all_pairs, is_close}
use Rattle.scan_model.proofs.join.scan_join.Given as goal

-- the pairs so far and those of the other left points are all pairs
abbrev pub invariant-loop-i : goal.invariant-loop-i
invariant-loop-i g l =
    l.pairs.items ++ filter (is_close l.r) (all_pairs (g.M.Metric.space l.m) l.i (drop l.i l.left.points) l.right.points)
    ≡ filter (is_close l.r) (all_pairs (g.M.Metric.space l.m) 0 l.left.points l.right.points)
