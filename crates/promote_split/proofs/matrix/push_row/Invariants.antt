use Rattle.std.proofs.Common.{◌≡◌, ◌++◌, ◌≤◌, map, drop}
use Rattle.std.specs.List.{AllByRecursion}
use Rattle.metric_laws.specs.Space.{bound}
use Rattle.tree_growth.specs.Dealing.{Ball}
use Rattle.promote_split.specs.Tables.{HasCounted}
use Rattle.promote_split.proofs.matrix.push_row.Given as goal

-- the distances so far, and those of the rest
abbrev pub invariant-loop-entry : goal.invariant-loop-entry
invariant-loop-entry g l = record {
  metric : g.R.Ruler.metric l.ruler ≡ g.R.Ruler.metric l.fn.ruler;
  counted : HasCounted l.entry-index (g.R.Ruler.used l.fn.ruler) (g.R.Ruler.used l.ruler);
  row : l.distances.items ++ map (λ (q : Ball). (g.R.M.Metric.space (g.R.Ruler.metric l.fn.ruler)).dist q.0 l.to) (map g.E.Entry.ball (drop l.entry-index l.entries))
      ≡ l.fn.distances.items ++ map (λ (q : Ball). (g.R.M.Metric.space (g.R.Ruler.metric l.fn.ruler)).dist q.0 l.to) (map g.E.Entry.ball l.entries);
  within : AllByRecursion (λ d. d ≤ bound) l.distances.items;
}
