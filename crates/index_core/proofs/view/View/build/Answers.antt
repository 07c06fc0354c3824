use Rattle.std.proofs.Common.{sym, ap, subst, ◌∙◌}
use Rattle.tree_shape.specs.Tree.{Nodes, IsSoundTree}
use Rattle.page_store.specs.Numbers.{AreNumbers}
use Rattle.free_pages.proofs.Published.{free_numbers}
use Rattle.index_core.specs.Files.{OpenFile}
use Rattle.index_core.specs.Index.{AreSpare}
use Rattle.index_core.specs.Writing.{Loads, IsPlacedFor}
use Rattle.index_core.proofs.Loaded.{load_placed_for}
use Rattle.index_core.proofs.view.View.build.Goals as goal

pub build-answer-requires-clause-numbers : goal.build-answer-requires-clause-numbers
build-answer-requires-clause-numbers g c = λ κs within.
    subst (λ (f : OpenFile g.row.M.Denot). AreNumbers f.live.pages c.as_slice.result.now) (sym c.self.view_is)
    (subst (AreNumbers c.args.self.now.live.pages) (sym (c.as_slice.ensures.value ∙ c.in_ok-numbers.ensures.pages)) (free_numbers c.args.self.now.live.pages _ c.args.free.now c.least.ensures.kept c.requires.within))

pub returns-in-Ok-clause-loads : goal.returns-in-Ok-clause-loads
returns-in-Ok-clause-loads g c =
    let few = (g.M.Metric.axioms c.self.inside.metric).few_coordinates in
    let empty = ap (λ (f : OpenFile g.row.M.Denot). f.live.count) c.self.view_is ∙ c.requires.empty in
    subst (λ (f : OpenFile g.row.M.Denot). (nodes : Nodes) → IsSoundTree (g.M.Metric.space f.metric) nodes f.live → AreSpare nodes f.live c.args.free.now →
    IsPlacedFor (g.M.Metric.space f.metric) f.head (Loads c.args.rows.now.points c.args.tags.now) nodes f.live c.in-Ok.placed) c.self.view_is
    (load_placed_for (g.M.Metric.space c.self.inside.metric) c.self.inside.head c.self.inside.live c.args.free.now _ c.args.rows.now.points c.args.tags.now c.as_slice.result.now c.in-Ok.placed
    (c.as_slice.ensures.value ∙ c.in_ok-numbers.ensures.pages) few empty c.in-Ok.ensures.left c.in-Ok.ensures.apart c.in-Ok.ensures.loaded)
