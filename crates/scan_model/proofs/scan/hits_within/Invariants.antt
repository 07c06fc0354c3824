use Rattle.std.proofs.Common.{◌≡◌, ◌++◌, drop}
use Rattle.std.specs.Prelude.{filter}
use Rattle.scan_model.specs.Scan.{hits_from, is_within}
use Rattle.scan_model.proofs.scan.hits_within.Given as goal

-- the hits so far and those of the other points are all hits
abbrev pub invariant-loop-id : goal.invariant-loop-id
invariant-loop-id g l =
    l.hits.items ++ filter (is_within l.r) (hits_from (g.M.Metric.space l.m) l.q l.id (drop l.id l.rows.points))
    ≡ filter (is_within l.r) (hits_from (g.M.Metric.space l.m) l.q 0 l.rows.points)
