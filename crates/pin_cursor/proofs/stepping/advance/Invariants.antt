use Rattle.std.proofs.Common.{◌≡◌, ◌+◌, ◌-◌, ◌≤◌, length}
use Rattle.pin_cursor.specs.Steps.{IsUnderWay, stage}
use Rattle.pin_cursor.proofs.stepping.advance.Given as goal

abbrev pub invariant-loop-alloc : goal.invariant-loop-alloc
invariant-loop-alloc g l = record {
  metric : g.R.Ruler.metric l.ruler ≡ g.R.Ruler.metric l.fn.ruler;
  keeps : g.P.Pages.keeps l.fn.pages l.pages;
  no_fault : (g.P.Pages.shelf l.pages).faults ≡ (g.P.Pages.shelf l.fn.pages).faults;
  subtrees : l.walk.subtrees.handed ≡ l.fn.walk.subtrees.handed;
  candidates : l.walk.candidates.handed ≡ l.fn.walk.candidates.handed;
  long : length l.walk.hits.items ≤ l.goal.n;
  way : IsUnderWay (g.R.M.Metric.space (g.R.Ruler.metric l.fn.ruler)) (g.P.Pages.shelf l.fn.pages) (g.P.Pages.shelf l.pages)
      (stage l.live l.goal.q.now l.fn.walk.given l.fn.walk.opened l.fn.walk.subtrees.waits l.fn.walk.candidates.waits)
      (stage l.live l.goal.q.now l.walk.given l.walk.opened l.walk.subtrees.waits l.walk.candidates.waits) l.walk.hits.items l.walk.tags.items;
}

-- each turn opens a page or gives a hit
abbrev pub decreases-loop-alloc : goal.decreases-loop-alloc
decreases-loop-alloc g l = (l.live.pages - l.walk.opened) + (l.goal.n - length l.walk.hits.items)
