use Rattle.std.proofs.Common.{◌≡◌, ◌++◌, drop}
use Rattle.std.specs.Prelude.{map, IsPermutation}
use Rattle.pin_cursor.specs.Cursor.{candidate_of}
use Rattle.pin_cursor.proofs.opening.meet_objects.Given as goal

-- what was added so far, and what the rest will add
abbrev pub invariant-loop-index : goal.invariant-loop-index
invariant-loop-index g l = record {
  metric : g.R.Ruler.metric l.ruler ≡ g.R.Ruler.metric l.fn.ruler;
  met : IsPermutation (map (candidate_of (g.R.M.Metric.space (g.R.Ruler.metric l.fn.ruler)) l.q) l.entries ++ l.fn.candidates.waits)
      (map (candidate_of (g.R.M.Metric.space (g.R.Ruler.metric l.fn.ruler)) l.q) (drop l.index l.entries) ++ l.candidates.waits);
  handed : l.candidates.handed ≡ l.fn.candidates.handed;
}
