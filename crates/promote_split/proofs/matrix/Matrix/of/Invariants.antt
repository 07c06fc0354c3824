use Rattle.std.proofs.Common.{◌≡◌, ◌++◌, ◌≤◌, ◌*◌, map, drop, length}
use Rattle.std.specs.List.{AllByRecursion, flat_map}
use Rattle.metric_laws.specs.Space.{bound}
use Rattle.tree_growth.specs.Dealing.{Ball}
use Rattle.promote_split.specs.Tables.{HasCounted}
use Rattle.promote_split.proofs.matrix.Matrix.of.Given as goal

-- the radii so far, and those of the rest
abbrev pub invariant-loop-entry : goal.invariant-loop-entry
invariant-loop-entry g l = record {
  radii : l.radii.items ++ map (λ (b : Ball). b.1) (map g.E.Entry.ball (drop l.entry-index l.entries)) ≡ map (λ (b : Ball). b.1) (map g.E.Entry.ball l.entries);
  within : AllByRecursion (λ d. d ≤ bound) l.radii.items;
  rest : AllByRecursion (λ e. (g.E.Entry.ball e).1 ≤ bound) (drop l.entry-index l.entries);
}

-- the rows so far, and those of the rest
abbrev pub invariant-loop-centre : goal.invariant-loop-centre
invariant-loop-centre g l = record {
  metric : g.R.Ruler.metric l.ruler ≡ g.R.Ruler.metric l.fn.ruler;
  counted : HasCounted (l.centre-index * length l.entries) (g.R.Ruler.used l.fn.ruler) (g.R.Ruler.used l.ruler);
  rows : l.distances.items ++ flat_map (λ (p : Ball). map (λ (q : Ball). (g.R.M.Metric.space (g.R.Ruler.metric l.fn.ruler)).dist q.0 p.0) (map g.E.Entry.ball l.entries)) (map g.E.Entry.ball (drop l.centre-index l.entries))
      ≡ flat_map (λ (p : Ball). map (λ (q : Ball). (g.R.M.Metric.space (g.R.Ruler.metric l.fn.ruler)).dist q.0 p.0) (map g.E.Entry.ball l.entries)) (map g.E.Entry.ball l.entries);
  square : length l.distances.items ≡ l.centre-index * length l.entries;
  within : AllByRecursion (λ d. d ≤ bound) l.distances.items;
}
