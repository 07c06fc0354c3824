use Rattle.std.proofs.Common.{◌≡◌, ◌-◌, ◌<◌, false, length, get_or}
use Rattle.tree_shape.specs.declared.entry.InnerEntry.{InnerEntry}
use Rattle.log_model.specs.Walk.{search_at, parent_skips, least_for_subtree, need_of}
use Rattle.log_model.proofs.Marked.{IsMarkedTo}
use Rattle.log_model.proofs.marking.mark_inner.Given as goal

-- the subtrees before this one were marked, and this one is not ruled out
abbrev pub invariant-loop-at : goal.invariant-loop-at
invariant-loop-at g l = record {
  metric : g.R.Ruler.metric l.ruler ≡ g.R.Ruler.metric l.fn.ruler;
  next : (e : InnerEntry) → l.at < length l.entries → parent_skips l.above (get_or l.entries l.at e).parent l.probe.rho (get_or l.entries l.at e).radius ≡ false;
  marked : IsMarkedTo (least_for_subtree (search_at (g.R.M.Metric.space (g.R.Ruler.metric l.fn.ruler)) l.probe.q.now l.probe.rho) l.above)
      (need_of (search_at (g.R.M.Metric.space (g.R.Ruler.metric l.fn.ruler)) l.probe.q.now l.probe.rho))
      l.entries l.at l.marks (g.R.Ruler.used l.fn.ruler) (g.R.Ruler.used l.ruler) l.fn.needs.items l.needs.items;
}

abbrev pub decreases-loop-at : goal.decreases-loop-at
decreases-loop-at g l = length l.entries - l.at
