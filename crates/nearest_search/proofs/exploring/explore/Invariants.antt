use Rattle.std.proofs.Common.{◌≡◌, ◌+◌, ◌*◌, ◌-◌, ◌≤◌}
use Rattle.std.specs.BinaryHeap.{heap_items}
use Rattle.nearest_search.specs.Keeping.{SpansFit, kept_seen}
use Rattle.nearest_search.specs.Searched.{IsExploring}
use Rattle.nearest_search.proofs.exploring.explore.Given as goal

abbrev pub invariant-loop-next : goal.invariant-loop-next
invariant-loop-next g l = record {
  metric : g.R.Ruler.metric l.ruler ≡ g.R.Ruler.metric l.fn.ruler;
  used : g.R.Ruler.used l.ruler ≤ g.R.Ruler.used l.fn.ruler + 32 * l.opened;
  keeps : g.P.Pages.keeps l.fn.pages l.pages;
  no_fault : (g.P.Pages.shelf l.pages).faults ≡ (g.P.Pages.shelf l.fn.pages).faults;
  count : l.machine.best.k ≡ l.fn.machine.best.k;
  fits : SpansFit l.machine.kept;
  exploring : IsExploring (g.R.M.Metric.space (g.R.Ruler.metric l.fn.ruler)) (g.P.Pages.shelf l.fn.pages) (g.P.Pages.shelf l.pages) l.live l.q l.fn.machine.best.k
      (record { queue = l.machine.frontier; best = heap_items l.machine.best.heap; kept = kept_seen l.machine.kept; used = g.R.Ruler.used l.ruler }) l.opened (g.R.Ruler.used l.fn.ruler);
}

abbrev pub decreases-loop-next : goal.decreases-loop-next
decreases-loop-next g l = l.live.pages - l.opened
