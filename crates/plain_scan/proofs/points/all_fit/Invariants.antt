use Rattle.std.proofs.Common.{◌≡◌, drop}
use Rattle.std.specs.List.{list_all}
use Rattle.plain_scan.proofs.points.all_fit.Given as goal

-- the rows so far fit, so all fit exactly where the others do
abbrev pub invariant-loop-i : goal.invariant-loop-i
invariant-loop-i g l = list_all (g.M.Metric.space l.metric).is_point (drop l.i l.rows.points) ≡ list_all (g.M.Metric.space l.metric).is_point l.rows.points
