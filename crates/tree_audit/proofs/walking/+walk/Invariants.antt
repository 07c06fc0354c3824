use Rattle.std.proofs.Common.{◌≡◌, ◌+◌, ◌≤◌, IsTrue, length, drop}
use Rattle.page_store.specs.Shelf.{HoldsSame}
use Rattle.tree_audit.specs.Audited.{each_entry, audited_at}
use Rattle.tree_audit.specs.Met.{AreFewer}
use Rattle.tree_audit.specs.Visits.{seen_of, entry_told}
use Rattle.tree_audit.proofs.walking.+walk.Given as goal

abbrev pub decreases-walk : goal.decreases-walk
decreases-walk g l = l.at.level

abbrev pub invariant-loop-place : goal.invariant-loop-place
invariant-loop-place g l = record {
  metric : g.R.Ruler.metric l.ruler ≡ g.R.Ruler.metric l.fn.ruler;
  same : HoldsSame (g.P.Pages.shelf l.fn.pages) (g.P.Pages.shelf l.pages);
  keeps : g.P.Pages.keeps l.fn.pages l.pages;
  no_fault : (g.P.Pages.shelf l.pages).faults ≡ (g.P.Pages.shelf l.fn.pages).faults;
  pages_limit : l.visits.pages.limit ≡ l.fn.visits.pages.limit;
  ids_limit : l.visits.ids.limit ≡ l.fn.visits.ids.limit;
  path : l.path.items ≡ l.fn.path.items;
  left : IsTrue (g.P.Pages.shelf l.fn.pages).is_known
      → each_entry (entry_told (g.R.M.Metric.space (g.R.Ruler.metric l.fn.ruler)) (g.P.Pages.shelf l.fn.pages).read l.fn.visits.ids.limit l.at.level l.fn.path.items l.at.page) l.place (drop l.place l.entries) (seen_of l.visits)
      ≡ audited_at (g.R.M.Metric.space (g.R.Ruler.metric l.fn.ruler)) (g.P.Pages.shelf l.fn.pages).read l.fn.visits.ids.limit l.at.level l.at.least l.fn.path.items l.at.page (seen_of l.fn.visits);
  fewer : AreFewer l.visits.pages;
  asked : (g.P.Pages.shelf l.pages).asked + length l.fn.visits.pages.met ≤ (g.P.Pages.shelf l.fn.pages).asked + length l.visits.pages.met;
  reads : (g.P.Pages.shelf l.pages).reads + length l.fn.visits.pages.met ≤ (g.P.Pages.shelf l.fn.pages).reads + length l.visits.pages.met;
}
