use Rattle.std.proofs.Common.{◌≡◌, [], ◌∷◌, refl, sym, ap, ◌∙◌, arith, Result}
use Rattle.std.proofs.lemmas.List.{nil_from_length}
use Rattle.bulk_load.specs.Groupable.{load_of}
use Rattle.bulk_load.specs.Postorder.{is_top}
use Rattle.bulk_load.proofs.Looped.{begun, room_left, ended}
use Rattle.bulk_load.proofs.Moved.{all_good}
use Rattle.bulk_load.proofs.Joined.{made_of_all, joins_first, joins_all, joins_few, joins_low, joins_next}
use Rattle.bulk_load.proofs.sharing.add_tree.Goals as goal

pub all_made-requires-clause-groups : goal.all_made-requires-clause-groups
all_made-requires-clause-groups g c κs within =
    all_good (load_of (g.M.Metric.space c.args.loading.now.metric) c.args.loading.now.rows.now.points c.args.loading.now.tags.now c.args.loading.now.fill) (g.M.Metric.axioms c.args.loading.now.metric) c.requires.load
    c.args.set.now.level c.args.set.now.seed c.args.set.now.places.now c.as_slice.result.now c.if-set-eq0.false c.requires.set (c.as_slice.ensures.value ∙ c.in_ok-groups.ensures)

pub loop-part-init : goal.loop-part-init
loop-part-init g c =
    joins_first _ _ _ _ _ _ _ _ _ _ (begun _ _ _ _ _ _ _ (is_top c.args.set.now.seed) _ (g.M.Metric.axioms c.args.loading.now.metric) c.requires.load c.if-set-eq0.false c.requires.set c.in_ok-entries.ensures.items refl c.in_ok-groups.ensures)
    c.in_ok-entries.ensures.items
    (made_of_all _ _ _ _ _ _ _ c.as_slice.ensures.value c.into_iter-part-iterator.ensures.into_iter_gives.0 c.in_ok-parts.ensures)

pub add_nodes-requires-clause-few : goal.add_nodes-requires-clause-few
add_nodes-requires-clause-few g c =
    joins_few _ _ _ _ _ _ _ _ _ _ _ _ c.loop-part.invariant (c.in-Some.ensures.steps.0 ∙ ap (λ (p : Result _ _). p ∷ c.next.new.self.rest.items) c.in_ok-made.was) _ c.if-set-eq0.false c.requires.few

pub add_nodes-requires-clause-children : goal.add_nodes-requires-clause-children
add_nodes-requires-clause-children g c =
    joins_low _ _ _ _ _ _ _ _ _ _ _ _ c.loop-part.invariant (c.in-Some.ensures.steps.0 ∙ ap (λ (p : Result _ _). p ∷ c.next.new.self.rest.items) c.in_ok-made.was)

pub loop-part-preserved : goal.loop-part-preserved
loop-part-preserved g c =
    joins_next _ _ _ _ _ _ _ _ _ _ _ _ c.loop-part.invariant (c.in-Some.ensures.steps.0 ∙ ap (λ (p : Result _ _). p ∷ c.next.new.self.rest.items) c.in_ok-made.was)
    c.add_nodes.new.nodes.items c.in_ok-entry.field-0 _ _ c.in_ok-entry.ensures.nodes c.in_ok-entry.ensures.page refl c.in_ok-push.ensures.items

pub push_inner-requires-clause-few : goal.push_inner-requires-clause-few
push_inner-requires-clause-few g c κs inside =
    let none : c.loop-part.part-iterator.rest.items ≡ [] = nil_from_length c.loop-part.part-iterator.rest.items (sym c.loop-part.part-iterator.rest.ok.0 ∙ c.in-None.ensures.steps.0) in
    let more = room_left _ _ _ _ _ _ _ _ _ _ c.if-set-eq0.false c.loop-part.invariant.loops (joins_all _ _ _ _ _ _ _ _ _ _ c.loop-part.invariant none) c.requires.few in omega (arith, more)

pub returns-clause-page : goal.returns-clause-page
returns-clause-page g c =
    let none : c.loop-part.part-iterator.rest.items ≡ [] = nil_from_length c.loop-part.part-iterator.rest.items (sym c.loop-part.part-iterator.rest.ok.0 ∙ c.in-None.ensures.steps.0) in
    (ended _ _ _ _ _ _ _ _ _ _ _ _ c.if-set-eq0.false c.loop-part.invariant.loops (joins_all _ _ _ _ _ _ _ _ _ _ c.loop-part.invariant none) refl c.in_ok-page.ensures.page c.in_ok-page.ensures.nodes).0

pub returns-clause-nodes : goal.returns-clause-nodes
returns-clause-nodes g c =
    let none : c.loop-part.part-iterator.rest.items ≡ [] = nil_from_length c.loop-part.part-iterator.rest.items (sym c.loop-part.part-iterator.rest.ok.0 ∙ c.in-None.ensures.steps.0) in
    (ended _ _ _ _ _ _ _ _ _ _ _ _ c.if-set-eq0.false c.loop-part.invariant.loops (joins_all _ _ _ _ _ _ _ _ _ _ c.loop-part.invariant none) refl c.in_ok-page.ensures.page c.in_ok-page.ensures.nodes).1
