use Rattle.std.proofs.Common.{◌-◌}
use Rattle.job_make.proofs.Walked.{IsCollecting}
use Rattle.job_make.proofs.collecting.collect.Given as goal

abbrev pub invariant-loop-tour : goal.invariant-loop-tour
invariant-loop-tour g l = record {
  keeps : g.P.Pages.keeps l.fn.pages l.pages;
  collecting : IsCollecting (g.P.Pages.shelf l.fn.pages) (g.P.Pages.shelf l.pages) l.live l.tour l.found.items;
}

abbrev pub decreases-loop-tour : goal.decreases-loop-tour
decreases-loop-tour g l = l.tour.most - l.tour.opened
