use Rattle.std.proofs.Common.{◌≡◌, reverse}
use Rattle.tree_shape.specs.declared.live.Live.{Live}
use Rattle.page_store.specs.Shelf.{HoldsSame}
use Rattle.log_model.specs.JoinSteps.{search_within}
use Rattle.metric_join.specs.Steps.{weight, IsUnderWay}
use Rattle.metric_join.proofs.walking.walk_pairs.Given as goal

-- a walk that was under way is under way
abbrev pub invariant-loop-waiting : goal.invariant-loop-waiting
invariant-loop-waiting g l = record {
  metric : g.R.Ruler.metric l.ruler ≡ g.R.Ruler.metric l.fn.ruler;
  left_same : HoldsSame (g.P.Pages.shelf l.fn.left) (g.P.Pages.shelf l.left);
  left_no_fault : (g.P.Pages.shelf l.left).faults ≡ (g.P.Pages.shelf l.fn.left).faults;
  left_keeps : g.P.Pages.keeps l.fn.left l.left;
  right_same : HoldsSame (g.Q.Pages.shelf l.fn.right) (g.Q.Pages.shelf l.right);
  right_no_fault : (g.Q.Pages.shelf l.right).faults ≡ (g.Q.Pages.shelf l.fn.right).faults;
  right_keeps : g.Q.Pages.keeps l.fn.right l.right;
  rho : l.walk.rho ≡ l.fn.begun.rho;
  way : (ll lr : Live) →
      IsUnderWay (search_within (g.R.M.Metric.space (g.R.Ruler.metric l.fn.ruler)) l.fn.begun.rho) ll lr (g.P.Pages.shelf l.fn.left) (g.P.Pages.shelf l.fn.left) (g.Q.Pages.shelf l.fn.right) (g.Q.Pages.shelf l.fn.right)
      (g.R.Ruler.used l.fn.ruler) (g.R.Ruler.used l.fn.ruler) l.fn.begun.records.items l.fn.begun.hits.items (reverse l.fn.begun.stack.items) →
      IsUnderWay (search_within (g.R.M.Metric.space (g.R.Ruler.metric l.fn.ruler)) l.fn.begun.rho) ll lr (g.P.Pages.shelf l.fn.left) (g.P.Pages.shelf l.left) (g.Q.Pages.shelf l.fn.right) (g.Q.Pages.shelf l.right)
      (g.R.Ruler.used l.fn.ruler) (g.R.Ruler.used l.ruler) l.walk.records.items l.walk.hits.items (reverse l.walk.stack.items);
}

abbrev pub decreases-loop-waiting : goal.decreases-loop-waiting
decreases-loop-waiting g l = weight (reverse l.walk.stack.items)
