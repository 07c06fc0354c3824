use Rattle.std.proofs.Common.{◌≡◌, ◌∙◌, ℕ, List, None, length, rules, subst, sym, All, IsTrue}
use Rattle.std.specs.Prelude.{map}
use Rattle.std.specs.List.Sorted.{IsNonDecreasingBy, IsPermutation}
use Rattle.std.proofs.lemmas.List.Sorted.{IsNonDecreasingBy-from_sort, answers_always}
use Rattle.tree_shape.specs.declared.entry.LeafEntry.{LeafEntry}
use Rattle.tree_shape.specs.Fill.{root_least}
use Rattle.tree_shape.specs.Tree.{IsSoundTree, points_by_id, tags_by_id}
use Rattle.page_store.specs.Reading.{nodes_of}
use Rattle.job_make.specs.Ordering.{AreInSpace, AreNumbered}
use Rattle.job_make.proofs.Ordered.{all_fit, found_count, if_taken, sorted_fits, sorted_numbered, sorted_points, sorted_tags, taking_cause}
use Rattle.job_make.proofs.ordering.objects_of.Goals as goal

pub returns-then-len-live-clause-cause : goal.returns-then-len-live-clause-cause
returns-then-len-live-clause-cause g c = λ so.
    let many = found_count (g.M.Metric.space c.args.metric) (nodes_of (g.P.Pages.shelf c.args.pages.now).read) c.args.live.now c.in-Ok.entries.items so.1 (c.in-Ok.ensures.found so.0 (g.M.Metric.space c.args.metric) so.1) in
    absurd (c.if-len-live.true (c.len.ensures ∙ c.in-Ok.entries.ok.0 ∙ many))

pub returns-clause-is_point : goal.returns-clause-is_point
returns-clause-is_point g c =
    let s = g.M.Metric.space c.args.metric in
    let es = c.as_slice.result.now in
    if_taken (λ o. o.rows.points ≡ map (λ (e : LeafEntry). e.point) es) (λ o. All (λ (p : List ℕ). IsTrue (s.is_point p)) o.rows.points) (AreInSpace s es) c.take_in_order.result c.take_in_order.ensures.points c.take_in_order.ensures.is_point
    (λ o points is_point. all_fit s es o.rows.points points is_point)

pub returns-clause-points : goal.returns-clause-points
returns-clause-points g c =
    let s = g.M.Metric.space c.args.metric in
    let nodes = nodes_of (g.P.Pages.shelf c.args.pages.now).read in
    let es = c.as_slice.result.now in
    let moved : IsPermutation c.in-Ok.entries.items es = subst (λ (l : List LeafEntry). IsPermutation c.in-Ok.entries.items l) (sym c.as_slice.ensures.value) c.sort_unstable_by_key.ensures.permutation in
    let long : length es ≡ c.args.live.now.count = c.as_slice.ensures.len ∙ c.sort_unstable_by_key.ensures.len ∙ sym c.len.ensures ∙ c.if-len-live.false in
    if_taken (λ o. o.rows.points ≡ map (λ (e : LeafEntry). e.point) es) (λ o. IsTrue (g.P.Pages.shelf c.args.pages.now).is_known → IsSoundTree s nodes c.args.live.now → o.rows.points ≡ points_by_id nodes c.args.live.now) (AreNumbered 0 es)
    c.take_in_order.result c.take_in_order.ensures.points c.take_in_order.ensures.numbered
    (λ o points numbered is_known sound. points ∙ sorted_points s nodes c.args.live.now sound c.in-Ok.entries.items (c.in-Ok.ensures.found is_known s sound) es moved numbered long)

pub returns-clause-tags : goal.returns-clause-tags
returns-clause-tags g c =
    let s = g.M.Metric.space c.args.metric in
    let nodes = nodes_of (g.P.Pages.shelf c.args.pages.now).read in
    let es = c.as_slice.result.now in
    let moved : IsPermutation c.in-Ok.entries.items es = subst (λ (l : List LeafEntry). IsPermutation c.in-Ok.entries.items l) (sym c.as_slice.ensures.value) c.sort_unstable_by_key.ensures.permutation in
    let long : length es ≡ c.args.live.now.count = c.as_slice.ensures.len ∙ c.sort_unstable_by_key.ensures.len ∙ sym c.len.ensures ∙ c.if-len-live.false in
    if_taken (λ o. o.tags.items ≡ map (λ (e : LeafEntry). e.tag) es) (λ o. IsTrue (g.P.Pages.shelf c.args.pages.now).is_known → IsSoundTree s nodes c.args.live.now → o.tags.items ≡ tags_by_id nodes c.args.live.now) (AreNumbered 0 es)
    c.take_in_order.result c.take_in_order.ensures.tags c.take_in_order.ensures.numbered
    (λ o tags numbered is_known sound. tags ∙ sorted_tags s nodes c.args.live.now sound c.in-Ok.entries.items (c.in-Ok.ensures.found is_known s sound) es moved numbered long)

pub returns-clause-cause : goal.returns-clause-cause
returns-clause-cause g c =
    let s = g.M.Metric.space c.args.metric in
    let nodes = nodes_of (g.P.Pages.shelf c.args.pages.now).read in
    let t = c.args.live.now in
    let es = c.as_slice.result.now in
    let up : IsNonDecreasingBy (λ (e : LeafEntry). e.id) c.sort_unstable_by_key.new.self.items =
    IsNonDecreasingBy-from_sort (λ (e : LeafEntry). e.id) _ (c.sort_unstable_by_key.ensures.sorted (λ (e : LeafEntry). e.id) (answers_always _ _ _ (λ f a r f' k. search rules))) in
    let moved : IsPermutation c.in-Ok.entries.items es = subst (λ (l : List LeafEntry). IsPermutation c.in-Ok.entries.items l) (sym c.as_slice.ensures.value) c.sort_unstable_by_key.ensures.permutation in
    taking_cause (IsTrue (g.P.Pages.shelf c.args.pages.now).is_known × IsSoundTree s nodes t) s es (g.P.Pages.shelf c.args.pages.now).faults (g.P.Pages.shelf c.collect.new.pages).faults c.take_in_order.result
    (λ so.
    let are = c.in-Ok.ensures.found so.0 s so.1 in (
      sorted_numbered s nodes t so.1 c.in-Ok.entries.items are es moved (subst (λ (l : List LeafEntry). IsNonDecreasingBy (λ (e : LeafEntry). e.id) l) (sym c.as_slice.ensures.value) up),
      sorted_fits s nodes t so.1 c.in-Ok.entries.items are es moved (c.objects_fit.ensures s nodes t.height (root_least t.height) None t.root so.1.parts),
    ))
    c.take_in_order.ensures.kind c.take_in_order.ensures.cause
