use Rattle.std.proofs.Common.{◌≡◌, [], ◌∷◌, reverse, drop}
use Rattle.std.specs.Prelude.{IsTrue}
use Rattle.page_store.specs.Shelf.{HoldsSame}
use Rattle.job_show.specs.Walks.{root_coming, shown}
use Rattle.job_show.specs.Steps.{AreUpTo, search_by, shown_then}
use Rattle.job_show.proofs.FewMarks.{AreFew}
use Rattle.job_show.proofs.walking.show_records.Given as goal

-- what is shown so far and then of the records that are left
abbrev pub invariant-loop-told : goal.invariant-loop-told
invariant-loop-told g l = record {
  same : HoldsSame (g.P.Pages.shelf l.fn.pages) (g.P.Pages.shelf l.pages);
  keeps : g.P.Pages.keeps l.fn.pages l.pages;
  depths : AreUpTo l.told-index (reverse l.walk.stack.items);
  few : AreFew l.told-index l.walk.counts;
  way : IsTrue (g.P.Pages.shelf l.fn.pages).is_known →
      shown_then l.walk (shown (search_by l.gauge) (g.P.Pages.shelf l.fn.pages).read (reverse l.walk.stack.items) (drop l.told-index l.records))
      ≡ shown (search_by l.gauge) (g.P.Pages.shelf l.fn.pages).read (root_coming l.root ∷ []) l.records;
}
