use Rattle.std.proofs.Common.{◌≡◌, ◌++◌, map, drop, take}
use Rattle.metric_laws.specs.Counts.{count_up}
use Rattle.log_model.specs.Counts.{measured_by}
use Rattle.log_model.specs.Walk.{allows_subtree, near_ones, need_of, search_at}
use Rattle.log_verify.specs.Judged.{first_wrong}
use Rattle.log_verify.proofs.checking.check_inner.Given as goal

-- what is left to check and to name, and what it cost so far
abbrev pub invariant-loop-i : goal.invariant-loop-i
invariant-loop-i g l = record {
  metric : g.R.Ruler.metric l.ruler ≡ g.R.Ruler.metric l.fn.ruler;
  wrong : first_wrong (allows_subtree (search_at (g.R.M.Metric.space (g.R.Ruler.metric l.fn.ruler)) l.probe.q.now l.probe.rho) l.above) (drop l.i l.entries) (drop l.i l.marks) l.i
      ≡ first_wrong (allows_subtree (search_at (g.R.M.Metric.space (g.R.Ruler.metric l.fn.ruler)) l.probe.q.now l.probe.rho) l.above) l.entries l.marks 0;
  named : l.needs.items ++ map (need_of (search_at (g.R.M.Metric.space (g.R.Ruler.metric l.fn.ruler)) l.probe.q.now l.probe.rho)) (near_ones (drop l.i l.entries) (drop l.i l.marks))
      ≡ l.fn.needs.items ++ map (need_of (search_at (g.R.M.Metric.space (g.R.Ruler.metric l.fn.ruler)) l.probe.q.now l.probe.rho)) (near_ones l.entries l.marks);
  counted : g.R.Ruler.used l.ruler ≡ count_up (g.R.Ruler.used l.fn.ruler) (measured_by (take l.i l.marks));
}
