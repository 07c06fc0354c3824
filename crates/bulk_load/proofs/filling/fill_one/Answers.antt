use Rattle.std.proofs.Common.{◌≡◌, ℕ, ◌<◌, ◌∙◌, [], ◌∷◌, List, refl, sym, subst, arith}
use Rattle.std.specs.Prelude.{All}
use Rattle.std.proofs.lemmas.List.{nil_from_length}
use Rattle.tree_growth.specs.declared.rules.Member.{Member}
use Rattle.tree_growth.specs.Groups.{Far, entry}
use Rattle.bulk_load.proofs.Walking.{Walk, walk_begins, walk_step, walk_ends}
use Rattle.bulk_load.proofs.filling.fill_one.Goals as goal

pub loop-place-init : goal.loop-place-init
loop-place-init g c =
    let far : Far = entry c.args.distances.now.table in
    let short = c.if-least-counts.false in
    let is = c.requires.counts c.args.group in
    let begun : Walk far c.args.least c.args.group c.args.placed.now c.args.placed.now c.in_ok-items.items.items =
    walk_begins far c.args.least c.args.group c.args.placed.now c.in_ok-items.items.items (omega arith) c.in_ok-items.ensures.are c.in_ok-items.ensures.sorted in (
      subst (λ (r : List (ℕ × ℕ)). Walk far c.args.least c.args.group c.args.placed.now c.args.placed.now r) (sym c.into_iter-place-iterator.ensures.into_iter_gives.0) begun,
      c.requires.counts,
      c.requires.len,
      refl,
      subst (λ (n : ℕ). All (λ (p : Member). p.group < n) c.args.placed.now) c.requires.len c.requires.groups,
    )

pub loop-place-preserved : goal.loop-place-preserved
loop-place-preserved g c =
    let far : Far = entry c.args.distances.now.table in
    let short = c.if-least-counts-2.false in
    let is = c.loop-place.invariant.1 c.args.group in
    let here : Walk far c.args.least c.args.group c.args.placed.now c.loop-place.placed ((c.in-Some.field-0-0, c.in-Some.place) ∷ c.next.new.self.rest.items) =
    subst (λ (r : List (ℕ × ℕ)). Walk far c.args.least c.args.group c.args.placed.now c.loop-place.placed r) c.in-Some.ensures.steps.0 c.loop-place.invariant.0 in (
      walk_step far c.args.least c.args.group c.args.placed.now c.loop-place.placed c.move_over.new.placed (c.in-Some.field-0-0, c.in-Some.place) c.next.new.self.rest.items here (omega arith) c.move_over.ensures.placed,
      c.move_over.ensures.counts,
      c.move_over.ensures.len ∙ c.loop-place.invariant.2,
      c.move_over.ensures.long ∙ c.loop-place.invariant.3,
      subst (λ (n : ℕ). All (λ (p : Member). p.group < n) c.move_over.new.placed) (c.move_over.ensures.len ∙ c.loop-place.invariant.2) c.move_over.ensures.groups,
    )

pub returns-clause-placed : goal.returns-clause-placed
returns-clause-placed g c =
    let far : Far = entry c.args.distances.now.table in
    let none : c.loop-place.place-iterator.rest.items ≡ [] = nil_from_length c.loop-place.place-iterator.rest.items (sym c.loop-place.place-iterator.rest.ok.0 ∙ c.in-None.ensures.steps.0) in
    walk_ends far c.args.least c.args.group c.args.placed.now c.loop-place.placed
    (subst (λ (r : List (ℕ × ℕ)). Walk far c.args.least c.args.group c.args.placed.now c.loop-place.placed r) none c.loop-place.invariant.0)
