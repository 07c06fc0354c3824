use Rattle.std.proofs.Common.{◌≡◌, ◌≤◌, ◌*◌, reverse, drop}
use Rattle.std.specs.Prelude.{IsTrue}
use Rattle.job_show.proofs.Published.{AreFew}
use Rattle.job_show_joins.specs.Walks.{shown}
use Rattle.job_join.specs.Both.{HoldBoth}
use Rattle.job_show_joins.specs.Steps.{AreUpTo, search_by}
use Rattle.job_show_joins.proofs.PairSteps.{then_shown}
use Rattle.job_show_joins.proofs.walking.show_records.Given as goal

-- what is shown so far and then of the records that are left
abbrev pub invariant-loop-told : goal.invariant-loop-told
invariant-loop-told g l = record {
  same : HoldBoth (g.P.Pages.shelf l.fn.left) (g.P.Pages.shelf l.left) (g.Q.Pages.shelf l.fn.right) (g.Q.Pages.shelf l.right);
  left_keeps : g.P.Pages.keeps l.fn.left l.left;
  right_keeps : g.Q.Pages.keeps l.fn.right l.right;
  depths : AreUpTo l.told-index (reverse l.walk.stack.items);
  few : AreFew l.told-index l.walk.counts;
  measured : l.walk.measured ≤ 64 * l.told-index;
  way : IsTrue (g.P.Pages.shelf l.fn.left).is_known → IsTrue (g.Q.Pages.shelf l.fn.right).is_known →
      then_shown (search_by l.search) l.walk (g.P.Pages.shelf l.fn.left).read (g.Q.Pages.shelf l.fn.right).read (drop l.told-index l.records)
      ≡ shown (search_by l.search) (g.P.Pages.shelf l.fn.left).read (g.Q.Pages.shelf l.fn.right).read (reverse l.fn.begun.stack.items) l.records;
}
