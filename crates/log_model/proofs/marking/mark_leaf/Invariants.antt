use Rattle.std.proofs.Common.{◌≡◌, ◌-◌, ◌<◌, false, length, get_or}
use Rattle.tree_shape.specs.declared.entry.LeafEntry.{LeafEntry}
use Rattle.log_model.specs.Walk.{search_at, parent_skips, least_for_object}
use Rattle.log_model.specs.Met.{tagged_of}
use Rattle.log_model.proofs.Marked.{IsMarkedTo}
use Rattle.log_model.proofs.marking.mark_leaf.Given as goal

-- the objects before this one were marked, and this one is not ruled out
abbrev pub invariant-loop-at : goal.invariant-loop-at
invariant-loop-at g l = record {
  metric : g.R.Ruler.metric l.ruler ≡ g.R.Ruler.metric l.fn.ruler;
  next : (e : LeafEntry) → l.at < length l.entries → parent_skips l.above (get_or l.entries l.at e).parent l.probe.rho 0 ≡ false;
  marked : IsMarkedTo (least_for_object (search_at (g.R.M.Metric.space (g.R.Ruler.metric l.fn.ruler)) l.probe.q.now l.probe.rho) l.above)
      (tagged_of (g.R.M.Metric.space (g.R.Ruler.metric l.fn.ruler)) l.probe.q.now)
      l.entries l.at l.marks (g.R.Ruler.used l.fn.ruler) (g.R.Ruler.used l.ruler) l.fn.tagged.items l.tagged.items;
}

abbrev pub decreases-loop-at : goal.decreases-loop-at
decreases-loop-at g l = length l.entries - l.at
