use Rattle.std.proofs.Common.{◌≡◌, ◌≤◌, ◌-◌, length, reverse}
use Rattle.log_model.specs.Walk.{search_at}
use Rattle.range_search.specs.Searched.{IsUnderWay}
use Rattle.range_search.proofs.searching.follow.Given as goal

abbrev pub invariant-loop-need : goal.invariant-loop-need
invariant-loop-need g l = record {
  metric : g.R.Ruler.metric l.ruler ≡ g.R.Ruler.metric l.fn.ruler;
  keeps : g.P.Pages.keeps l.fn.pages l.pages;
  no_fault : (g.P.Pages.shelf l.pages).faults ≡ (g.P.Pages.shelf l.fn.pages).faults;
  count : l.opened ≡ length l.walk.records.items;
  low : l.opened ≤ l.live.pages;
  way : IsUnderWay (search_at (g.R.M.Metric.space (g.R.Ruler.metric l.fn.ruler)) l.probe.q.now l.probe.rho) (g.P.Pages.shelf l.fn.pages) (g.P.Pages.shelf l.pages)
      (g.R.Ruler.used l.fn.ruler) (g.R.Ruler.used l.ruler) l.live.root l.walk.records.items l.walk.tagged.items (reverse l.walk.stack.items);
}

abbrev pub decreases-loop-need : goal.decreases-loop-need
decreases-loop-need g l = l.live.pages - l.opened
