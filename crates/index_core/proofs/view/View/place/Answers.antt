use Rattle.std.proofs.Common.{sym, ap, subst, ◌∙◌}
use Rattle.std.specs.Prelude.{IsTrue}
use Rattle.tree_shape.specs.Tree.{IsSoundTree}
use Rattle.page_store.specs.Numbers.{AreNumbers}
use Rattle.page_store.specs.Placing.{AreOutside}
use Rattle.page_store.specs.Reading.{nodes_of}
use Rattle.page_store.specs.Shelf.{Shelf}
use Rattle.page_store.specs.Succession.{TakesPlace}
use Rattle.free_pages.proofs.Published.{free_numbers}
use Rattle.index_core.specs.Files.{OpenFile, nodes_on}
use Rattle.index_core.specs.Writing.{Inserts, IsPlacedFor}
use Rattle.index_core.proofs.Listed.{free_outside, placed_for}
use Rattle.index_core.proofs.view.View.place.Goals as goal

pub place-answer-requires-clause-numbers : goal.place-answer-requires-clause-numbers
place-answer-requires-clause-numbers g c = λ κs within.
    subst (λ (f : OpenFile g.row.M.Denot). AreNumbers f.live.pages c.as_slice.result.now) (sym c.self.view_is)
    (subst (AreNumbers c.args.self.now.live.pages) (sym (c.as_slice.ensures.value ∙ c.in_ok-numbers.ensures.pages)) (free_numbers c.args.self.now.live.pages _ c.args.free.now c.least.ensures.kept c.requires.within))

pub place-answer-requires-clause-outside : goal.place-answer-requires-clause-outside
place-answer-requires-clause-outside g c = λ κs within is_known sound.
    let told = subst (λ (h : Shelf). IsTrue h.is_known) c.lend-pages.ensures.shelf is_known in
    let is = subst (λ (f : OpenFile g.row.M.Denot). IsSoundTree (g.M.Metric.space c.new-ruler.result.metric) (nodes_on c.args.self.now (g.D.Disk.state c.args.disk.now)) f.live) c.self.view_is
    (subst (λ (h : Shelf). IsSoundTree (g.M.Metric.space c.new-ruler.result.metric) (nodes_of h.read) c.self.inside.live) c.lend-pages.ensures.shelf sound) in
    subst (λ (h : Shelf). AreOutside (nodes_of h.read) c.self.inside.live c.as_slice.result.now) (sym c.lend-pages.ensures.shelf)
    (subst (λ (f : OpenFile g.row.M.Denot). AreOutside (nodes_on c.args.self.now (g.D.Disk.state c.args.disk.now)) f.live c.as_slice.result.now) (sym c.self.view_is)
    (subst (AreOutside (nodes_on c.args.self.now (g.D.Disk.state c.args.disk.now)) c.args.self.now.live) (sym (c.as_slice.ensures.value ∙ c.in_ok-numbers.ensures.pages))
    (free_outside (g.M.Metric.space c.new-ruler.result.metric) (nodes_on c.args.self.now (g.D.Disk.state c.args.disk.now)) c.args.self.now.live c.args.free.now _ (c.requires.beside told) is)))

pub returns-in-Ok-clause-takes_place : goal.returns-in-Ok-clause-takes_place
returns-in-Ok-clause-takes_place g c = λ is_known.
    let told = subst (λ (h : Shelf). IsTrue h.is_known) (sym c.lend-pages.ensures.shelf) is_known in
    subst (λ (f : OpenFile g.row.M.Denot). TakesPlace (nodes_on c.args.self.now (g.D.Disk.state c.args.disk.now)) f.live c.in-Ok.placed) c.self.view_is
    (subst (λ (h : Shelf). TakesPlace (nodes_of h.read) c.self.inside.live c.in-Ok.placed) c.lend-pages.ensures.shelf (c.in-Ok.ensures.takes_place told))

pub returns-in-Ok-clause-inserts : goal.returns-in-Ok-clause-inserts
returns-in-Ok-clause-inserts g c = λ sound.
    subst (λ (f : OpenFile g.row.M.Denot). IsTrue (g.D.Disk.state c.args.disk.now).is_known → IsSoundTree (g.M.Metric.space f.metric) (nodes_on c.args.self.now (g.D.Disk.state c.args.disk.now)) f.live →
    IsPlacedFor (g.M.Metric.space f.metric) f.head (Inserts c.args.p.now c.args.tag) (nodes_on c.args.self.now (g.D.Disk.state c.args.disk.now)) f.live c.in-Ok.placed) c.self.view_is
    (placed_for _ _ (ap g.M.Metric.space c.new-ruler.ensures.metric) _ _ c.lend-pages.ensures.shelf c.self.inside.head c.self.inside.live c.args.tag c.args.p.now c.in-Ok.placed c.in-Ok.ensures.apart
    c.in-Ok.ensures.inserted) sound.0 sound.1
