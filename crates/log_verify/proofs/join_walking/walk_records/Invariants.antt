use Rattle.std.proofs.Common.{◌≡◌, reverse, drop, take}
use Rattle.std.specs.Prelude.{IsTrue}
use Rattle.page_store.specs.Shelf.{HoldsSame}
use Rattle.metric_laws.specs.Counts.{CountsUpTo}
use Rattle.log_model.specs.Counts.{join_measured}
use Rattle.log_model.specs.JoinSteps.{search_within}
use Rattle.log_verify.specs.Causes.{AskBothUpTo}
use Rattle.log_verify.specs.JoinJudged.{join_walked}
use Rattle.log_verify.proofs.join_walking.walk_records.Given as goal

-- the walk of what is left is the whole walk, and what it cost so far
abbrev pub invariant-loop-told : goal.invariant-loop-told
invariant-loop-told g l = record {
  metric : g.R.Ruler.metric l.ruler ≡ g.R.Ruler.metric l.fn.ruler;
  left_same : HoldsSame (g.P.Pages.shelf l.fn.left) (g.P.Pages.shelf l.left);
  left_keeps : g.P.Pages.keeps l.fn.left l.left;
  left_no_fault : (g.P.Pages.shelf l.left).faults ≡ (g.P.Pages.shelf l.fn.left).faults;
  right_same : HoldsSame (g.Q.Pages.shelf l.fn.right) (g.Q.Pages.shelf l.right);
  right_keeps : g.Q.Pages.keeps l.fn.right l.right;
  right_no_fault : (g.Q.Pages.shelf l.right).faults ≡ (g.Q.Pages.shelf l.fn.right).faults;
  rho : l.walk.rho ≡ l.fn.begun.rho;
  taken : l.walk.taken ≡ l.told-index;
  asked : AskBothUpTo (g.P.Pages.shelf l.fn.left) (g.P.Pages.shelf l.left) (g.Q.Pages.shelf l.fn.right) (g.Q.Pages.shelf l.right) l.told-index;
  counted : CountsUpTo (g.R.Ruler.used l.fn.ruler) (g.R.Ruler.used l.ruler) (join_measured (take l.told-index l.records));
  way : IsTrue (g.P.Pages.shelf l.fn.left).is_known → IsTrue (g.Q.Pages.shelf l.fn.right).is_known →
      join_walked (search_within (g.R.M.Metric.space (g.R.Ruler.metric l.fn.ruler)) l.fn.begun.rho) (g.P.Pages.shelf l.fn.left).read (g.Q.Pages.shelf l.fn.right).read l.walk.named.hits.items (reverse l.walk.stack.items) (drop l.told-index l.records) l.walk.taken
      ≡ join_walked (search_within (g.R.M.Metric.space (g.R.Ruler.metric l.fn.ruler)) l.fn.begun.rho) (g.P.Pages.shelf l.fn.left).read (g.Q.Pages.shelf l.fn.right).read l.fn.begun.named.hits.items (reverse l.fn.begun.stack.items) l.records 0;
}
