-- The objects of a tree with one object more, in order of id.
use Rattle.page_store.proofs.Published.{AreCounted, none_counted, once_counted, tag_of-in, tally_count, tally_ids, there_counted, with_id}
use Rattle.std.proofs.Common.{◌≡◌, ◌≢◌, ◌⊎◌, ℕ, zero, suc, ◌+◌, ◌<◌, ◌≤◌, Bool, true, false, List, [], ◌∷◌, ◌++◌, refl, sym, ap, ◌∙◌, arith, map, inl, inr}
use Rattle.std.specs.Prelude.{if◌then◌else◌, ◌==◌, nat_lt, count_by}
use Rattle.std.specs.List.{AllByRecursion}
use Rattle.std.proofs.lemmas.Bool.Decides.{nat_tests}
use Rattle.metric_laws.specs.Lists.{IsIn}
use Rattle.metric_laws.proofs.Published.{all_append, all_in, in-map, map-in}
use Rattle.tree_shape.specs.declared.entry.LeafEntry.{LeafEntry}
use Rattle.tree_shape.specs.Tree.{times, point_of, points_from, tag_of, tags_from}
use Rattle.tree_shape.specs.Plain.{Object, Plain, Tall, objects_in, objects_of, object_of}
use Rattle.tree_growth.specs.Insertion.{Rules, Grown, One, Two, inserted, new_root, placed_by}
use Rattle.tree_growth.proofs.Published.{GrownAll, inserted_all}
use Rattle.tree_shape.proofs.Published.{ids_of, times-in, object_of as object_with, point_of-in}

-- as many of an id as the rules say
pub ids_more : (id count : ℕ) (o : Object) (old new : List LeafEntry) → o.id ≡ count → times id (ids_of old) ≡ (if nat_lt id count then 1 else 0) →
    count_by (with_id id) (map object_of new) ≡ count_by (with_id id) (map object_of old) + (if with_id id o then 1 else 0) → times id (ids_of new) ≡ (if nat_lt id (count + 1) then 1 else 0)
ids_more id count o old new is before more =
    let a = tally_ids id new ∙ tally_count id (map object_of new) in
    let b = tally_ids id old ∙ tally_count id (map object_of old) in
    sums _ _ _ _ (a ∙ more) b before (step (o.id == id) refl)
  where
    sums : (new old n one : ℕ) → new ≡ n + one → old ≡ n → old ≡ (if nat_lt id count then 1 else 0) → (if nat_lt id count then 1 else 0) + one ≡ (if nat_lt id (count + 1) then 1 else 0) → new ≡ (if nat_lt id (count + 1) then 1 else 0)
    sums new old n one a b c d = omega (arith, a, b, c, d)

    step : (b : Bool) → (o.id == id) ≡ b → (if nat_lt id count then 1 else 0) + (if b then 1 else 0) ≡ (if nat_lt id (count + 1) then 1 else 0)
    step true e =
        let same : o.id ≡ id = grind (arith, nat_tests) in
        let x : nat_lt id count ≡ false = grind (arith, nat_tests) in
        let y : nat_lt id (count + 1) ≡ true = grind (arith, nat_tests) in rw (x, y) refl
    step false e =
        let other : o.id ≢ id = grind (arith, nat_tests) in
        let same : nat_lt id (count + 1) ≡ nat_lt id count = grind (arith, nat_tests) in rw same (omega arith)

-- each object of the new tree is an old one or the new one
pub placed_all : (R : Rules) (P : Object → Type 0) (o : Object) → P o → (t : Tall) → AllByRecursion P (objects_of t) → AllByRecursion P (objects_of (placed_by R o t))
placed_all R P o here t all = cases (inserted R o t.height t.tree) (inserted_all R P o here t.height t.tree all)
  where
    cases : (g : Grown (Plain t.height)) → GrownAll P t.height g → AllByRecursion P (objects_of (new_root t.height g))
    cases (One x) grown = grown
    cases (Two c d) grown = all_append P (objects_in t.height c.below) (objects_in t.height d.below ++ []) grown.0 (all_append P (objects_in t.height d.below) [] grown.1 tt)

-- an object of the new list with an id below the count is an old one
pub old_one : (count : ℕ) (o : Object) (old new : List LeafEntry) → o.id ≡ count → AreCounted old count → AreCounted new (count + 1) → AllByRecursion (λ x. IsIn x (map object_of old) ⊎ (x ≡ o)) (map object_of new) → (id : ℕ) → id < count →
    (point_of id new ≡ point_of id old) × (tag_of id new ≡ tag_of id old)
old_one count o old new is before after all id low =
    let found = object_with new id (there_counted new (count + 1) id after (omega arith)) in
    elim (all_in (λ (x : Object). IsIn x (map object_of old) ⊎ (x ≡ o)) (map object_of new) (object_of found.0) all (map-in object_of new found.0 found.1)) [
      | inl k ↦ (let was = in-map object_of old (object_of found.0) k in both found.0 found.1 found.2 was.0 was.1 was.2)
      | inr e ↦ absurd (let i : found.0.id ≡ o.id = ap (λ (x : Object). x.id) e in let j = found.2 in omega (arith, i, j, is))
    ]
  where
    both : (e : LeafEntry) → IsIn e new → e.id ≡ id → (f : LeafEntry) → IsIn f old → object_of e ≡ object_of f → (point_of id new ≡ point_of id old) × (tag_of id new ≡ tag_of id old)
    both e k at f l same =
        let fid : f.id ≡ id = ap (λ (x : Object). x.id) (sym same) ∙ at in (
          ap (λ (i : ℕ). point_of i new) (sym at) ∙ point_of-in new e k (once_counted new (count + 1) e.id after) ∙ ap (λ (x : Object). x.point) same ∙ sym (point_of-in old f l (once_counted old count f.id before)) ∙ ap (λ (i : ℕ). point_of i old) fid,
          ap (λ (i : ℕ). tag_of i new) (sym at) ∙ tag_of-in new e k (once_counted new (count + 1) e.id after) ∙ ap (λ (x : Object). x.tag) same ∙ sym (tag_of-in old f l (once_counted old count f.id before)) ∙ ap (λ (i : ℕ). tag_of i old) fid,
        )

-- the one with the count as its id is the new one
pub new_one : (count : ℕ) (o : Object) (old new : List LeafEntry) → o.id ≡ count → AreCounted old count → AreCounted new (count + 1) → AllByRecursion (λ x. IsIn x (map object_of old) ⊎ (x ≡ o)) (map object_of new) →
    (point_of count new ≡ o.point) × (tag_of count new ≡ o.tag)
new_one count o old new is before after all =
    let found = object_with new count (there_counted new (count + 1) count after (omega arith)) in
    elim (all_in (λ (x : Object). IsIn x (map object_of old) ⊎ (x ≡ o)) (map object_of new) (object_of found.0) all (map-in object_of new found.0 found.1)) [
      | inl k ↦ absurd (let was = in-map object_of old (object_of found.0) k in
          let i : was.0.id ≡ count = ap (λ (x : Object). x.id) (sym was.2) ∙ found.2 in
          let here = times-in old was.0 was.1 in
          let none = ap (λ (n : ℕ). times n (ids_of old)) i ∙ none_counted old count count before (omega arith) in omega (arith, here, none))
      | inr e ↦ (
        ap (λ (i : ℕ). point_of i new) (sym found.2) ∙ point_of-in new found.0 found.1 (once_counted new (count + 1) found.0.id after) ∙ ap (λ (x : Object). x.point) e,
        ap (λ (i : ℕ). tag_of i new) (sym found.2) ∙ tag_of-in new found.0 found.1 (once_counted new (count + 1) found.0.id after) ∙ ap (λ (x : Object). x.tag) e,
      )
    ]

pub points_more : (as_new bs : List LeafEntry) (p : List ℕ) (i n : ℕ) → ((id : ℕ) → i ≤ id → id < i + n → point_of id as_new ≡ point_of id bs) → point_of (i + n) as_new ≡ p → points_from as_new i (suc n) ≡ points_from bs i n ++ p ∷ []
points_more as_new bs p i zero same last = let e : i + 0 ≡ i = omega arith in ap (λ (x : List ℕ). x ∷ []) (ap (λ (k : ℕ). point_of k as_new) (sym e) ∙ last)
points_more as_new bs p i (suc n) same last =
    ap (λ (x : List ℕ). x ∷ points_from as_new (i + 1) (suc n)) (same i (omega arith) (omega arith))
    ∙ ap (λ r. point_of i bs ∷ r) (points_more as_new bs p (i + 1) n (λ id low high. same id (omega arith) (omega arith)) (ap (λ (k : ℕ). point_of k as_new) (let e : i + 1 + n ≡ i + suc n = omega arith in e) ∙ last))

pub tags_more : (as_new bs : List LeafEntry) (p : ℕ) (i n : ℕ) → ((id : ℕ) → i ≤ id → id < i + n → tag_of id as_new ≡ tag_of id bs) → tag_of (i + n) as_new ≡ p → tags_from as_new i (suc n) ≡ tags_from bs i n ++ p ∷ []
tags_more as_new bs p i zero same last = let e : i + 0 ≡ i = omega arith in ap (λ (x : ℕ). x ∷ []) (ap (λ (k : ℕ). tag_of k as_new) (sym e) ∙ last)
tags_more as_new bs p i (suc n) same last =
    ap (λ (x : ℕ). x ∷ tags_from as_new (i + 1) (suc n)) (same i (omega arith) (omega arith))
    ∙ ap (λ r. tag_of i bs ∷ r) (tags_more as_new bs p (i + 1) n (λ id low high. same id (omega arith) (omega arith)) (ap (λ (k : ℕ). tag_of k as_new) (let e : i + 1 + n ≡ i + suc n = omega arith in e) ∙ last))
