use Rattle.std.proofs.Common.{◌≡◌, ℕ, List, length}
use Rattle.page_store.specs.Shelf.{HoldsSame}
use Rattle.job_dump.specs.Writing.{AreFirstRows, IsWriting}
use Rattle.job_dump.proofs.writing.write_rows.Given as goal

abbrev pub invariant-loop-id : goal.invariant-loop-id
invariant-loop-id g l = record {
  keeps : g.P.Pages.keeps l.fn.pages l.pages;
  same : HoldsSame (g.P.Pages.shelf l.fn.pages) (g.P.Pages.shelf l.pages);
  front : (front : List (ℕ × List ℕ)) × (length front ≡ l.id) × IsWriting (g.K.Sink.state l.fn.out) (g.K.Sink.state l.out) l.text.items l.live.count front
      × AreFirstRows (g.P.Pages.shelf l.fn.pages) l.live l.places l.id front;
}
