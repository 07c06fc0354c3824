use Rattle.std.proofs.Common.{◌≡◌, ◌++◌, ◌-◌, ◌≤◌, length, map, drop, take}
use Rattle.metric_laws.specs.Counts.{CountsUpTo}
use Rattle.log_model.specs.Counts.{measured_by}
use Rattle.log_model.specs.Walk.{near_ones}
use Rattle.log_model.specs.JoinWalk.{allows_entry, with_entry, object_entry}
use Rattle.log_model.specs.JoinSteps.{search_within, hits_among, needs_among}
use Rattle.log_verify.specs.Judged.{first_wrong}
use Rattle.log_verify.proofs.join_checking.check_leaf.Given as goal

-- what is left to check and to name, and what it cost so far
abbrev pub invariant-loop-at : goal.invariant-loop-at
invariant-loop-at g l = record {
  metric : g.R.Ruler.metric l.ruler ≡ g.R.Ruler.metric l.fn.ruler;
  wrong : first_wrong (allows_entry (search_within (g.R.M.Metric.space (g.R.Ruler.metric l.fn.ruler)) l.probe.rho) l.probe.need.now) (map object_entry (drop l.at l.entries)) (drop l.at l.marks) l.at
      ≡ first_wrong (allows_entry (search_within (g.R.M.Metric.space (g.R.Ruler.metric l.fn.ruler)) l.probe.rho) l.probe.need.now) (map object_entry l.entries) l.marks 0;
  hits : l.named.hits.items ++ hits_among (map (with_entry (g.R.M.Metric.space (g.R.Ruler.metric l.fn.ruler)) l.probe.need.now) (near_ones (map object_entry (drop l.at l.entries)) (drop l.at l.marks)))
      ≡ l.fn.named.hits.items ++ hits_among (map (with_entry (g.R.M.Metric.space (g.R.Ruler.metric l.fn.ruler)) l.probe.need.now) (near_ones (map object_entry l.entries) l.marks));
  needs : l.named.needs.items ++ needs_among (map (with_entry (g.R.M.Metric.space (g.R.Ruler.metric l.fn.ruler)) l.probe.need.now) (near_ones (map object_entry (drop l.at l.entries)) (drop l.at l.marks)))
      ≡ l.fn.named.needs.items ++ needs_among (map (with_entry (g.R.M.Metric.space (g.R.Ruler.metric l.fn.ruler)) l.probe.need.now) (near_ones (map object_entry l.entries) l.marks));
  low : l.at ≤ length l.entries;
  counted : CountsUpTo (g.R.Ruler.used l.fn.ruler) (g.R.Ruler.used l.ruler) (measured_by (take l.at l.marks));
}

abbrev pub decreases-loop-at : goal.decreases-loop-at
decreases-loop-at g l = length l.entries - l.at
