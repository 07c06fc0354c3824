use Rattle.std.proofs.Common.{◌≡◌, ◌+◌, ◌≤◌, ◌&&◌, length}
use Rattle.std.specs.Prelude.{All, IsTrue}
use Rattle.page_store.specs.Shelf.{HoldsSame}
use Rattle.log_model.specs.Grammar.{IsValidLog}
use Rattle.job_files.specs.Logs.JobReports.{are_sound}
use Rattle.job_show.specs.Steps.{fault_by, texts_by}
use Rattle.job_show.proofs.PutTexts.{HasPut}
use Rattle.job_show.proofs.frames.show_frames.Given as goal

-- the texts so far are put, and the others are those of the other logs
abbrev pub invariant-loop-log : goal.invariant-loop-log
invariant-loop-log g l = record {
  same : HoldsSame (g.P.Pages.shelf l.fn.pages) (g.P.Pages.shelf l.pages);
  keeps : g.P.Pages.keeps l.fn.pages l.pages;
  valid : All IsValidLog l.log-iterator.rest.items;
  counted : l.frame + length l.log-iterator.rest.items ≡ length l.fn.logs.items;
  puts : IsTrue (g.P.Pages.shelf l.fn.pages).is_known → HasPut
      (texts_by l.view (g.P.Pages.shelf l.fn.pages).read 0 l.fn.logs.items)
      (texts_by l.view (g.P.Pages.shelf l.fn.pages).read l.frame l.log-iterator.rest.items)
      (g.K.Sink.state l.fn.out).written (g.K.Sink.state l.out).written;
  sound : IsTrue (g.P.Pages.shelf l.fn.pages).is_known →
      are_sound (fault_by l.view (g.P.Pages.shelf l.fn.pages).read) l.fn.logs.items
      ≡ (l.sound && are_sound (fault_by l.view (g.P.Pages.shelf l.fn.pages).read) l.log-iterator.rest.items);
  later : (g.K.Sink.state l.fn.out).faults ≤ (g.K.Sink.state l.out).faults;
}
