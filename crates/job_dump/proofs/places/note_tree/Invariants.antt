use Rattle.std.proofs.Common.{◌≡◌, ◌-◌, ℕ, List, length}
use Rattle.std.specs.Prelude.{IsTrue}
use Rattle.page_store.specs.Reading.{nodes_of}
use Rattle.page_tour.specs.Courses.{IsOnTour}
use Rattle.job_dump.specs.Places.{Notes}
use Rattle.job_dump.specs.Rows.{objects_on}
use Rattle.job_dump.proofs.places.note_tree.Given as goal

abbrev pub invariant-loop-page : goal.invariant-loop-page
invariant-loop-page g l = record {
  keeps : g.P.Pages.keeps l.fn.pages l.pages;
  long : length l.numbers ≡ length l.fn.numbers;
  way : (opened : List ℕ) × IsOnTour (g.P.Pages.shelf l.fn.pages) (g.P.Pages.shelf l.pages) l.live l.tour opened
      × (IsTrue (g.P.Pages.shelf l.fn.pages).is_known → Notes (nodes_of (g.P.Pages.shelf l.fn.pages).read) l.numbers (objects_on (nodes_of (g.P.Pages.shelf l.fn.pages).read) opened));
}

abbrev pub decreases-loop-page : goal.decreases-loop-page
decreases-loop-page g l = l.tour.most - l.tour.opened
