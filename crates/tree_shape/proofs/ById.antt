-- The points of a tree in order of id.
use Rattle.std.proofs.Common.{◌≡◌, ℕ, ◌+◌, ◌≤◌, Bool, true, false, List, [], ◌∷◌, refl, sym, ap, inl, inr, arith}
use Rattle.std.specs.Prelude.{map, ◌==◌, if◌then◌else◌}
use Rattle.std.proofs.lemmas.Bool.Decides.{nat_tests}
use Rattle.metric_laws.specs.Lists.{IsIn}
use Rattle.tree_shape.specs.declared.entry.LeafEntry.{LeafEntry}
use Rattle.tree_shape.specs.Tree.{times, point_of}

abbrev pub ids_of : List LeafEntry → List ℕ
ids_of es = map (λ e. e.id) es

-- an object that is there is counted
pub times-in : (es : List LeafEntry) (e : LeafEntry) → IsIn e es → 1 ≤ times e.id (ids_of es)
times-in [] e k = absurd k
times-in (x ∷ xs) e k = elim k [ inl same ↦ first (ap (λ o. o.id) same) | inr w ↦ (let ih = times-in xs e w in omega arith) ]
  where
    first : e.id ≡ x.id → 1 ≤ (if x.id == e.id then 1 else 0) + times e.id (ids_of xs)
    first same = grind (arith, nat_tests)

-- a number that is counted is the id of an object
pub object_of : (es : List LeafEntry) (id : ℕ) → 1 ≤ times id (ids_of es) → (e : LeafEntry) × IsIn e es × (e.id ≡ id)
object_of [] id many = absurd (omega arith)
object_of (x ∷ xs) id many = cases (x.id == id) refl (object_of xs id) many
  where
    cases : (b : Bool) → (x.id == id) ≡ b → (1 ≤ times id (ids_of xs) → (e : LeafEntry) × IsIn e xs × (e.id ≡ id)) →
        1 ≤ (if b then 1 else 0) + times id (ids_of xs) → (e : LeafEntry) × IsIn e (x ∷ xs) × (e.id ≡ id)
    cases true same ih many = (x, inl refl, (let t : x.id ≡ id = grind (arith, nat_tests) in t))
    cases false other ih many = (let deep = ih (omega arith) in (deep.0, inr deep.1, deep.2))

-- where an id is there once, its point is its object's
pub point_of-in : (es : List LeafEntry) (e : LeafEntry) → IsIn e es → times e.id (ids_of es) ≤ 1 → point_of e.id es ≡ e.point
point_of-in [] e k once = absurd k
point_of-in (x ∷ xs) e k once = cases (x.id == e.id) refl (point_of-in xs e) k once
  where
    cases : (b : Bool) → (x.id == e.id) ≡ b → (IsIn e xs → times e.id (ids_of xs) ≤ 1 → point_of e.id xs ≡ e.point) →
        IsIn e (x ∷ xs) → (if b then 1 else 0) + times e.id (ids_of xs) ≤ 1 → (if b then x.point else point_of e.id xs) ≡ e.point
    cases true same ih k once = elim k [ inl i ↦ ap (λ o. o.point) (sym i) | inr w ↦ (let here = times-in xs e w in absurd (omega arith)) ]
    cases false other ih k once = elim k [ inr w ↦ ih w (omega arith) | inl i ↦ absurd (let j = ap (λ o. o.id) i in wrong j) ]
      where
        wrong : e.id ≡ x.id → ⊥
        wrong j = grind (arith, nat_tests)
