use Rattle.std.proofs.Common.{◌≡◌, ◌-◌, ℕ, List}
use Rattle.page_tour.specs.Courses.{IsOnTour}
use Rattle.metric_join.proofs.touring.tour.Given as goal

abbrev pub invariant-loop-tour : goal.invariant-loop-tour
invariant-loop-tour g l = record {
  keeps : g.P.Pages.keeps l.fn.pages l.pages;
  no_fault : (g.P.Pages.shelf l.pages).faults ≡ (g.P.Pages.shelf l.fn.pages).faults;
  way : (opened : List ℕ) × IsOnTour (g.P.Pages.shelf l.fn.pages) (g.P.Pages.shelf l.pages) l.live l.tour opened;
}

abbrev pub decreases-loop-tour : goal.decreases-loop-tour
decreases-loop-tour g l = l.tour.most - l.tour.opened
