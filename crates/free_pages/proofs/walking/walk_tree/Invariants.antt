use Rattle.std.proofs.Common.{◌≡◌, suc, ◌-◌, reverse}
use Rattle.free_pages.specs.Opened.{IsUnderWay}
use Rattle.free_pages.proofs.walking.walk_tree.Given as goal

abbrev pub invariant-loop-page : goal.invariant-loop-page
invariant-loop-page g l = record {
  keeps : g.P.Pages.keeps l.fn.pages l.pages;
  no_fault : (g.P.Pages.shelf l.pages).faults ≡ (g.P.Pages.shelf l.fn.pages).faults;
  way : IsUnderWay (g.P.Pages.shelf l.fn.pages) (g.P.Pages.shelf l.pages) l.live l.walk.count l.walk.opened.items (reverse l.walk.coming.items);
}

abbrev pub decreases-loop-page : goal.decreases-loop-page
decreases-loop-page g l = suc l.live.pages - l.walk.count
