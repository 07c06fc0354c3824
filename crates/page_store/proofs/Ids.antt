-- Ids and tags of objects that are there once each.
use Rattle.std.proofs.Common.{◌≡◌, ℕ, ◌+◌, ◌<◌, ◌≤◌, Bool, true, false, cond, List, [], ◌∷◌, refl, sym, ap, ◌∙◌, arith, map, inl, inr}
use Rattle.std.specs.Prelude.{if◌then◌else◌, ◌==◌, nat_lt, count_by}
use Rattle.std.proofs.lemmas.Bool.Decides.{nat_tests}
use Rattle.std.proofs.lemmas.List.Recursion.{is_count_by}
use Rattle.metric_laws.specs.Lists.{IsIn}
use Rattle.tree_shape.specs.declared.entry.LeafEntry.{LeafEntry}
use Rattle.tree_shape.specs.Tree.{times, tag_of}
use Rattle.tree_shape.specs.Plain.{Object, object_of}
use Rattle.tree_shape.proofs.Published.{ids_of, times-in}

-- how often an id stands among objects
abbrev pub with_id : ℕ → Object → Bool
with_id id o = o.id == id

abbrev pub tally : ℕ → List Object → ℕ
tally id [] = 0
tally id (o ∷ os) = (if o.id == id then 1 else 0) + tally id os

pub tally_count : (id : ℕ) (os : List Object) → tally id os ≡ count_by (with_id id) os
tally_count id os = is_count_by (tally id) (with_id id) refl (λ o os. cases (o.id == id) (tally id os)) os
  where
    cases : (b : Bool) (n : ℕ) → (if b then 1 else 0) + n ≡ cond b (1 + n) n
    cases true n = refl
    cases false n = omega arith

pub tally_ids : (id : ℕ) (es : List LeafEntry) → times id (ids_of es) ≡ tally id (map object_of es)
tally_ids id [] = refl
tally_ids id (e ∷ es) = ap (λ (n : ℕ). (if e.id == id then 1 else 0) + n) (tally_ids id es)

-- where an id is there once, its tag is its object's
pub tag_of-in : (es : List LeafEntry) (e : LeafEntry) → IsIn e es → times e.id (ids_of es) ≤ 1 → tag_of e.id es ≡ e.tag
tag_of-in [] e k once = absurd k
tag_of-in (x ∷ xs) e k once = cases (x.id == e.id) refl (tag_of-in xs e) k once
  where
    cases : (b : Bool) → (x.id == e.id) ≡ b → (IsIn e xs → times e.id (ids_of xs) ≤ 1 → tag_of e.id xs ≡ e.tag) →
        IsIn e (x ∷ xs) → (if b then 1 else 0) + times e.id (ids_of xs) ≤ 1 → (if b then x.tag else tag_of e.id xs) ≡ e.tag
    cases true same ih k once = elim k [ inl i ↦ ap (λ o. o.tag) (sym i) | inr w ↦ (let here = times-in xs e w in absurd (omega arith)) ]
    cases false other ih k once = elim k [ inr w ↦ ih w (omega arith) | inl i ↦ absurd (let j = ap (λ o. o.id) i in wrong j) ]
      where
        wrong : e.id ≡ x.id → ⊥
        wrong j = grind (arith, nat_tests)

-- ids that are there once, below a count
abbrev pub AreCounted : List LeafEntry → ℕ → Type 0
AreCounted es count = (id : ℕ) → times id (ids_of es) ≡ (if nat_lt id count then 1 else 0)

pub once_counted : (es : List LeafEntry) (count id : ℕ) → AreCounted es count → times id (ids_of es) ≤ 1
once_counted es count id each = let e = each id in cases (nat_lt id count) e
  where
    cases : (b : Bool) → times id (ids_of es) ≡ (if b then 1 else 0) → times id (ids_of es) ≤ 1
    cases true e = omega (arith, e)
    cases false e = omega (arith, e)

pub there_counted : (es : List LeafEntry) (count id : ℕ) → AreCounted es count → id < count → 1 ≤ times id (ids_of es)
there_counted es count id each low = let e = each id in let t : nat_lt id count ≡ true = grind (arith, nat_tests) in let f : times id (ids_of es) ≡ 1 = e ∙ ap (λ (b : Bool). if b then 1 else 0) t in omega (arith, f)

pub none_counted : (es : List LeafEntry) (count id : ℕ) → AreCounted es count → count ≤ id → times id (ids_of es) ≡ 0
none_counted es count id each high = let e = each id in let t : nat_lt id count ≡ false = grind (arith, nat_tests) in e ∙ ap (λ (b : Bool). if b then 1 else 0) t
