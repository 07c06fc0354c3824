use Rattle.std.proofs.Common.{◌≡◌, ◌+◌, ◌≤◌, ◌&&◌, length}
use Rattle.std.specs.Prelude.{All, IsTrue}
use Rattle.log_model.specs.Grammar.{IsValidJoinLog}
use Rattle.job_files.specs.Logs.JobReports.{are_sound}
use Rattle.job_show.proofs.Published.{HasPut}
use Rattle.job_join.specs.Both.{HoldBoth}
use Rattle.job_show_joins.specs.Steps.{fault_by, texts_by}
use Rattle.job_show_joins.proofs.frames.show_frames.Given as goal

-- the texts so far are put, and the others are those of the other logs
abbrev pub invariant-loop-log : goal.invariant-loop-log
invariant-loop-log g l = record {
  same : HoldBoth (g.P.Pages.shelf l.fn.left) (g.P.Pages.shelf l.left) (g.Q.Pages.shelf l.fn.right) (g.Q.Pages.shelf l.right);
  left_keeps : g.P.Pages.keeps l.fn.left l.left;
  right_keeps : g.Q.Pages.keeps l.fn.right l.right;
  valid : All IsValidJoinLog l.log-iterator.rest.items;
  counted : l.frame + length l.log-iterator.rest.items ≡ length l.fn.logs.items;
  puts : IsTrue (g.P.Pages.shelf l.fn.left).is_known → IsTrue (g.Q.Pages.shelf l.fn.right).is_known → HasPut
      (texts_by l.view (g.P.Pages.shelf l.fn.left).read (g.Q.Pages.shelf l.fn.right).read 0 l.fn.logs.items)
      (texts_by l.view (g.P.Pages.shelf l.fn.left).read (g.Q.Pages.shelf l.fn.right).read l.frame l.log-iterator.rest.items)
      (g.K.Sink.state l.fn.out).written (g.K.Sink.state l.out).written;
  sound : IsTrue (g.P.Pages.shelf l.fn.left).is_known → IsTrue (g.Q.Pages.shelf l.fn.right).is_known →
      are_sound (fault_by l.view (g.P.Pages.shelf l.fn.left).read (g.Q.Pages.shelf l.fn.right).read) l.fn.logs.items
      ≡ (l.sound && are_sound (fault_by l.view (g.P.Pages.shelf l.fn.left).read (g.Q.Pages.shelf l.fn.right).read) l.log-iterator.rest.items);
  later : (g.K.Sink.state l.fn.out).faults ≤ (g.K.Sink.state l.out).faults;
}
