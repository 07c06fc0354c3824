use Rattle.std.proofs.Common.{rules, ◌≡◌, [], refl, sym, ◌∙◌, arith}
use Rattle.std.proofs.lemmas.List.{nil_from_length}
use Rattle.bulk_load.specs.Postorder.{is_top}
use Rattle.bulk_load.proofs.Looped.{begun, within, went, room_left, ended}
use Rattle.bulk_load.proofs.subtree.+add_subtree.Goals as goal

pub loop-group-init : goal.loop-group-init
loop-group-init g t c =
    let all : c.into_iter-group-iterator.result.rest.items ≡ c.in_ok-groups.groups.items = c.into_iter-group-iterator.ensures.into_iter_gives.0 in
    begun _ _ _ _ _ _ _ (is_top c.args.set.now.seed) _ (g.M.Metric.axioms c.args.loading.now.metric) c.requires.load c.if-set-eq0.false c.requires.set (search rules) refl
    (all ∙ c.in_ok-groups.ensures)

pub add_subtree-requires-clause-few : goal.add_subtree-requires-clause-few
add_subtree-requires-clause-few g t c κs inside =
    within _ _ _ _ _ _ _ _ _ _ _ _ _ c.if-set-eq0.false c.loop-group.invariant c.in-Some.ensures.steps.0 c.as_slice.ensures c.requires.few

pub push_inner-requires-clause-few : goal.push_inner-requires-clause-few
push_inner-requires-clause-few g t c κs inside =
    let none : c.loop-group.group-iterator.rest.items ≡ [] = nil_from_length c.loop-group.group-iterator.rest.items (sym c.loop-group.group-iterator.rest.ok.0 ∙ c.in-None.ensures.steps.0) in
    let more = room_left _ _ _ _ _ _ _ _ _ _ c.if-set-eq0.false c.loop-group.invariant none c.requires.few in omega (arith, more)

pub returns-clause-page : goal.returns-clause-page
returns-clause-page g t c =
    let none : c.loop-group.group-iterator.rest.items ≡ [] = nil_from_length c.loop-group.group-iterator.rest.items (sym c.loop-group.group-iterator.rest.ok.0 ∙ c.in-None.ensures.steps.0) in
    (ended _ _ _ _ _ _ _ _ _ _ _ _ c.if-set-eq0.false c.loop-group.invariant none refl c.in_ok-page-2.ensures.page c.in_ok-page-2.ensures.nodes).0

pub returns-clause-nodes : goal.returns-clause-nodes
returns-clause-nodes g t c =
    let none : c.loop-group.group-iterator.rest.items ≡ [] = nil_from_length c.loop-group.group-iterator.rest.items (sym c.loop-group.group-iterator.rest.ok.0 ∙ c.in-None.ensures.steps.0) in
    (ended _ _ _ _ _ _ _ _ _ _ _ _ c.if-set-eq0.false c.loop-group.invariant none refl c.in_ok-page-2.ensures.page c.in_ok-page-2.ensures.nodes).1

pub loop-group-preserved : goal.loop-group-preserved
loop-group-preserved g t c =
    went _ _ _ _ _ c.as_slice.result.now _ _ _ _ _ _ _ c.in-Some.group c.in_ok-page.page c.in_ok-entry.entry c.loop-group.invariant c.in-Some.ensures.steps.0 c.as_slice.ensures
    c.in_ok-page.ensures.nodes c.in_ok-page.ensures.page c.in_ok-entry.ensures c.in_ok-push.ensures.items
