use Rattle.std.proofs.Common.{◌≡◌, ◌+◌, ◌≤◌, [], ◌∷◌, reverse, drop, take}
use Rattle.std.specs.Prelude.{IsTrue}
use Rattle.page_store.specs.Shelf.{HoldsSame}
use Rattle.metric_laws.specs.Counts.{count_up}
use Rattle.log_model.specs.Counts.{measured}
use Rattle.log_model.specs.Walk.{search_at, root_need}
use Rattle.log_verify.specs.Judged.{walked}
use Rattle.log_verify.proofs.walking.walk_records.Given as goal

-- the walk of what is left is the whole walk, and what it cost so far
abbrev pub invariant-loop-told : goal.invariant-loop-told
invariant-loop-told g l = record {
  metric : g.R.Ruler.metric l.ruler ≡ g.R.Ruler.metric l.fn.ruler;
  same : HoldsSame (g.P.Pages.shelf l.fn.pages) (g.P.Pages.shelf l.pages);
  keeps : g.P.Pages.keeps l.fn.pages l.pages;
  no_fault : (g.P.Pages.shelf l.pages).faults ≡ (g.P.Pages.shelf l.fn.pages).faults;
  asked : (g.P.Pages.shelf l.pages).asked ≡ count_up (g.P.Pages.shelf l.fn.pages).asked l.told-index;
  reads : (g.P.Pages.shelf l.pages).reads ≤ (g.P.Pages.shelf l.fn.pages).reads + l.told-index;
  counted : g.R.Ruler.used l.ruler ≡ count_up (g.R.Ruler.used l.fn.ruler) (measured (take l.told-index l.records));
  taken : l.walk.taken ≡ l.told-index;
  way : IsTrue (g.P.Pages.shelf l.fn.pages).is_known →
      walked (search_at (g.R.M.Metric.space (g.R.Ruler.metric l.fn.ruler)) l.probe.q.now l.probe.rho) (g.P.Pages.shelf l.fn.pages).read l.walk.hits.items (reverse l.walk.stack.items) (drop l.told-index l.records) l.walk.taken
      ≡ walked (search_at (g.R.M.Metric.space (g.R.Ruler.metric l.fn.ruler)) l.probe.q.now l.probe.rho) (g.P.Pages.shelf l.fn.pages).read [] (root_need l.root ∷ []) l.records 0;
}
