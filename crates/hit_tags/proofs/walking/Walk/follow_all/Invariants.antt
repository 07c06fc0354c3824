use Rattle.std.proofs.Common.{◌≡◌, ◌+◌, ◌≤◌, drop, length}
use Rattle.std.specs.Prelude.{IsTrue}
use Rattle.page_store.specs.Reading.{nodes_of}
use Rattle.page_store.specs.Shelf.{HoldsSame}
use Rattle.hit_tags.specs.Steps.{IsUnderWay}
use Rattle.hit_tags.proofs.Following.{SoFar}
use Rattle.hit_tags.proofs.walking.Walk.follow_all.Given as goal

-- how far the walk has come, and what it cost
abbrev pub invariant-loop-told : goal.invariant-loop-told
invariant-loop-told g l = record {
  same : HoldsSame (g.P.Pages.shelf l.fn.pages) (g.P.Pages.shelf l.pages);
  keeps : g.P.Pages.keeps l.fn.pages l.pages;
  asked : SoFar (g.P.Pages.shelf l.fn.pages).asked (g.P.Pages.shelf l.pages).asked (length (drop l.told-index l.records)) (length l.records);
  reads : (g.P.Pages.shelf l.pages).reads + length (drop l.told-index l.records) ≤ (g.P.Pages.shelf l.fn.pages).reads + length l.records;
  no_fault : (g.P.Pages.shelf l.pages).faults ≡ (g.P.Pages.shelf l.fn.pages).faults;
  way : IsTrue (g.P.Pages.shelf l.fn.pages).is_known → IsUnderWay (nodes_of (g.P.Pages.shelf l.fn.pages).read) l.fn.self l.records l.self (drop l.told-index l.records);
}
