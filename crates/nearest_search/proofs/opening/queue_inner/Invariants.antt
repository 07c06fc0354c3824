use Rattle.std.proofs.Common.{◌≡◌, ◌+◌, ◌≤◌, ◌<◌, ◌++◌, false, drop, length, get_or, ◌-◌}
use Rattle.std.specs.Prelude.{IsPermutation}
use Rattle.tree_shape.specs.declared.entry.InnerEntry.{InnerEntry}
use Rattle.log_model.specs.Walk.{search_at, parent_skips}
use Rattle.nearest_search.specs.Opened.{inner_pendings}
use Rattle.nearest_search.specs.Seeing.{subtrees_seen}
use Rattle.nearest_search.proofs.opening.queue_inner.Given as goal

-- what is queued so far, and what the rest will queue; this subtree is not ruled out
abbrev pub invariant-loop-at : goal.invariant-loop-at
invariant-loop-at g l = record {
  low : l.at ≤ length l.entries;
  metric : g.R.Ruler.metric l.ruler ≡ g.R.Ruler.metric l.fn.ruler;
  used : g.R.Ruler.used l.ruler ≤ g.R.Ruler.used l.fn.ruler + l.at;
  next : (e : InnerEntry) → l.at < length l.entries → parent_skips l.above (get_or l.entries l.at e).parent l.probe.rho (get_or l.entries l.at e).radius ≡ false;
  queued : IsPermutation (inner_pendings (search_at (g.R.M.Metric.space (g.R.Ruler.metric l.fn.ruler)) l.probe.q.now l.probe.rho) l.above l.entries ++ l.fn.frontier)
      (inner_pendings (search_at (g.R.M.Metric.space (g.R.Ruler.metric l.fn.ruler)) l.probe.q.now l.probe.rho) l.above (drop l.at l.entries) ++ l.frontier);
  seen : l.seen.items ++ subtrees_seen (search_at (g.R.M.Metric.space (g.R.Ruler.metric l.fn.ruler)) l.probe.q.now l.probe.rho) l.above l.at (drop l.at l.entries)
      ≡ l.fn.seen.items ++ subtrees_seen (search_at (g.R.M.Metric.space (g.R.Ruler.metric l.fn.ruler)) l.probe.q.now l.probe.rho) l.above 0 l.entries;
}

abbrev pub decreases-loop-at : goal.decreases-loop-at
decreases-loop-at g l = length l.entries - l.at
