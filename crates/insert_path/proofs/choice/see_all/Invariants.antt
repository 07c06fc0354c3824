use Rattle.std.proofs.Common.{◌≡◌, map, drop}
use Rattle.std.specs.Prelude.{filter, IfSome, IsTrue}
use Rattle.tree_growth.specs.Dealing.{first_least}
use Rattle.tree_growth.specs.Insertion.{aims, is_inside, is_outside, excess}
use Rattle.promote_split.specs.Steps.{later}
use Rattle.promote_split.specs.Tables.{HasCounted}
use Rattle.insert_path.specs.Walk.{inner_ball}
use Rattle.insert_path.proofs.choice.see_all.Given as goal

abbrev pub invariant-loop-i : goal.invariant-loop-i
invariant-loop-i g l = record {
  metric : g.R.Ruler.metric l.ruler ≡ g.R.Ruler.metric l.fn.ruler;
  counted : HasCounted l.i (g.R.Ruler.used l.fn.ruler) (g.R.Ruler.used l.ruler);
  inside : later (λ a. a.dist) l.seen.inside (filter is_inside (aims (g.R.M.Metric.space (g.R.Ruler.metric l.fn.ruler)) l.p l.i (map inner_ball (drop l.i l.entries))))
      ≡ first_least (λ a. a.dist) (filter is_inside (aims (g.R.M.Metric.space (g.R.Ruler.metric l.fn.ruler)) l.p 0 (map inner_ball l.entries)));
  outside : later excess l.seen.outside (filter is_outside (aims (g.R.M.Metric.space (g.R.Ruler.metric l.fn.ruler)) l.p l.i (map inner_ball (drop l.i l.entries))))
      ≡ first_least excess (filter is_outside (aims (g.R.M.Metric.space (g.R.Ruler.metric l.fn.ruler)) l.p 0 (map inner_ball l.entries)));
  low : IfSome l.seen.outside (λ a. IsTrue (is_outside a));
}
