use Rattle.std.proofs.Common.{◌≡◌, ◌++◌, drop}
use Rattle.std.specs.Prelude.{map, IsPermutation}
use Rattle.pin_cursor.specs.Cursor.{subtree_of}
use Rattle.pin_cursor.proofs.opening.queue_subtrees.Given as goal

-- what was queued so far, and what the rest will queue
abbrev pub invariant-loop-index : goal.invariant-loop-index
invariant-loop-index g l = record {
  metric : g.R.Ruler.metric l.ruler ≡ g.R.Ruler.metric l.fn.ruler;
  queued : IsPermutation (map (subtree_of (g.R.M.Metric.space (g.R.Ruler.metric l.fn.ruler)) l.q) l.entries ++ l.fn.subtrees.waits)
      (map (subtree_of (g.R.M.Metric.space (g.R.Ruler.metric l.fn.ruler)) l.q) (drop l.index l.entries) ++ l.subtrees.waits);
  handed : l.subtrees.handed ≡ l.fn.subtrees.handed;
}
