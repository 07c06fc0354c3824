use Rattle.std.proofs.Common.{◌≡◌, ◌∙◌, ◌++◌, [], ℕ, List, ap, sym, inl, inr}
use Rattle.std.proofs.lemmas.List.{append-nil, nil_from_length}
use Rattle.tree_growth.specs.declared.rules.Group.{Group}
use Rattle.bulk_load.specs.MemberLists.{lists_in, groups_with}
use Rattle.bulk_load.proofs.Members.{no_lists}
use Rattle.bulk_load.proofs.grouping.with_seeds.Goals as goal

pub returns : goal.returns
returns c =
    let left = c.in-None.ensures.steps in
    let none : groups_with c.args.set.now c.loop-seed.seed-iterator.a.rest.now (lists_in c.loop-seed.seed-iterator.b.rest.items) ≡ [] =
    elim left [
      | inl e ↦
          ap (λ (seeds : List ℕ). groups_with c.args.set.now seeds (lists_in c.loop-seed.seed-iterator.b.rest.items))
          (nil_from_length c.loop-seed.seed-iterator.a.rest.now e.1.0)
      | inr e ↦
          ap (λ vs. groups_with c.args.set.now c.loop-seed.seed-iterator.a.rest.now (lists_in vs)) (nil_from_length c.loop-seed.seed-iterator.b.rest.items (sym c.loop-seed.seed-iterator.b.rest.ok.0 ∙ e.1.0))
          ∙ no_lists c.args.set.now c.loop-seed.seed-iterator.a.rest.now
    ] in
    sym (append-nil c.loop-seed.groups.items) ∙ ap (λ (gs : List Group). c.loop-seed.groups.items ++ gs) (sym none) ∙ c.loop-seed.invariant
