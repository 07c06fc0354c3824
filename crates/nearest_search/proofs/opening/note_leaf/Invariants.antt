use Rattle.std.proofs.Common.{◌≡◌, ℕ, ◌+◌, ◌++◌, ◌≤◌, ◌<◌, false, min, drop, length, get_or, ◌-◌}
use Rattle.std.specs.BinaryHeap.{heap_items}
use Rattle.tree_shape.specs.declared.entry.LeafEntry.{LeafEntry}
use Rattle.log_model.specs.Walk.{search_at, parent_skips}
use Rattle.nearest_search.specs.Counts.{within}
use Rattle.nearest_search.specs.Opened.{leaf_dists}
use Rattle.nearest_search.specs.Seeing.{objects_seen}
use Rattle.nearest_search.proofs.opening.note_leaf.Given as goal

-- the distances so far, and those of the rest; this object is not ruled out
abbrev pub invariant-loop-at : goal.invariant-loop-at
invariant-loop-at g l = record {
  low : l.at ≤ length l.entries;
  metric : g.R.Ruler.metric l.ruler ≡ g.R.Ruler.metric l.fn.ruler;
  used : g.R.Ruler.used l.ruler ≤ g.R.Ruler.used l.fn.ruler + l.at;
  count : l.best.k ≡ l.fn.best.k;
  next : (e : LeafEntry) → l.at < length l.entries → parent_skips l.above (get_or l.entries l.at e).parent l.probe.rho 0 ≡ false;
  noted : (r : ℕ) →
      min l.fn.best.k (within r (heap_items l.best.heap) + within r (leaf_dists (search_at (g.R.M.Metric.space (g.R.Ruler.metric l.fn.ruler)) l.probe.q.now l.probe.rho) l.above (drop l.at l.entries)))
      ≡ min l.fn.best.k (within r (heap_items l.fn.best.heap) + within r (leaf_dists (search_at (g.R.M.Metric.space (g.R.Ruler.metric l.fn.ruler)) l.probe.q.now l.probe.rho) l.above l.entries));
  seen : l.seen.items ++ objects_seen (search_at (g.R.M.Metric.space (g.R.Ruler.metric l.fn.ruler)) l.probe.q.now l.probe.rho) l.above l.at (drop l.at l.entries)
      ≡ l.fn.seen.items ++ objects_seen (search_at (g.R.M.Metric.space (g.R.Ruler.metric l.fn.ruler)) l.probe.q.now l.probe.rho) l.above 0 l.entries;
}

abbrev pub decreases-loop-at : goal.decreases-loop-at
decreases-loop-at g l = length l.entries - l.at
