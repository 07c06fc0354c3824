use Rattle.std.proofs.Common.{◌≡◌, ◌-◌, map, drop, length}
use Rattle.log_model.specs.JoinWalk.{object_entry}
use Rattle.log_model.specs.JoinSteps.{search_within}
use Rattle.metric_join.specs.Steps.{TakesEntries, CountsMarks}
use Rattle.metric_join.specs.declared.opening.Opening.{Opening}
use Rattle.metric_join.proofs.opening.mark_leaf.Given as goal

-- what takes the entries that are left takes all
abbrev pub invariant-loop-at : goal.invariant-loop-at
invariant-loop-at g l = record {
  metric : g.R.Ruler.metric l.ruler ≡ g.R.Ruler.metric l.fn.ruler;
  long : length l.opening.marks.items ≡ l.at;
  counted : CountsMarks (g.R.Ruler.used l.fn.ruler) (g.R.Ruler.used l.ruler) l.fn.opening.marks.items l.opening.marks.items;
  taken : (last : Opening) → TakesEntries (search_within (g.R.M.Metric.space (g.R.Ruler.metric l.fn.ruler)) l.probe.rho) l.probe.need.now (map object_entry (drop l.at l.entries)) l.opening last →
      TakesEntries (search_within (g.R.M.Metric.space (g.R.Ruler.metric l.fn.ruler)) l.probe.rho) l.probe.need.now (map object_entry l.entries) l.fn.opening last;
}

abbrev pub decreases-loop-at : goal.decreases-loop-at
decreases-loop-at g l = length l.entries - l.at
