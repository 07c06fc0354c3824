-- The rows of a load, by id, and as entries of its nodes.
use Rattle.std.proofs.Common.{◌≡◌, ℕ, zero, suc, ◌+◌, ◌<◌, ◌≤◌, Bool, true, false, List, [], ◌∷◌, refl, sym, ap, ◌∙◌, arith, length, map, get_or}
use Rattle.std.specs.Prelude.{if◌then◌else◌, ◌==◌, nat_lt, slice_index_or}
use Rattle.std.specs.List.{AllByRecursion}
use Rattle.std.proofs.lemmas.Bool.Decides.{nat_tests}
use Rattle.metric_laws.proofs.Published.{all_in, map-in}
use Rattle.tree_shape.specs.declared.entry.LeafEntry.{LeafEntry}
use Rattle.tree_shape.specs.Tree.{point_of, points_from, tag_of, tags_from}
use Rattle.tree_shape.specs.Plain.{Object, object_of}
use Rattle.tree_growth.specs.Bulk.{Load, object_at, places_from}
use Rattle.tree_shape.proofs.Published.{object_of as object_with, point_of-in}
use Rattle.page_store.proofs.Published.{tally, AreCounted, once_counted, there_counted, tag_of-in}

-- the ids of rows in order
before : (l : Load) (id k n : ℕ) → id < k → tally id (map (object_at l) (places_from k n)) ≡ 0
before l id k zero low = refl
before l id k (suc n) low = let ih = before l id (k + 1) n (omega (arith, low)) in let e : (k == id) ≡ false = grind (arith, nat_tests) in rw e (omega (arith, ih))

behind : (l : Load) (id k n : ℕ) → k + n ≤ id → tally id (map (object_at l) (places_from k n)) ≡ 0
behind l id k zero high = refl
behind l id k (suc n) high = let ih = behind l id (k + 1) n (omega (arith, high)) in let e : (k == id) ≡ false = grind (arith, nat_tests) in rw e (omega (arith, ih))

among : (l : Load) (id k n : ℕ) → k ≤ id → id < k + n → tally id (map (object_at l) (places_from k n)) ≡ 1
among l id k zero low high = absurd (omega (arith, low, high))
among l id k (suc n) low high = cases (k == id) refl (λ more. among l id (k + 1) n more (omega (arith, high)))
  where
    cases : (b : Bool) → (k == id) ≡ b → (k + 1 ≤ id → tally id (map (object_at l) (places_from (k + 1) n)) ≡ 1) → (if b then 1 else 0) + tally id (map (object_at l) (places_from (k + 1) n)) ≡ 1
    cases true e deep = let s : k ≡ id = grind (arith, nat_tests) in let z = before l id (k + 1) n (omega (arith, s)) in omega (arith, z)
    cases false e deep = let more : k + 1 ≤ id = grind (arith, nat_tests) in let one = deep more in omega (arith, one)

pub rows_once : (l : Load) (id n : ℕ) → tally id (map (object_at l) (places_from 0 n)) ≡ (if nat_lt id n then 1 else 0)
rows_once l id n = cases (nat_lt id n) refl
  where
    cases : (b : Bool) → nat_lt id n ≡ b → tally id (map (object_at l) (places_from 0 n)) ≡ (if b then 1 else 0)
    cases true e = among l id 0 n (omega arith) (let low : id < n = grind (arith, nat_tests) in omega (arith, low))
    cases false e = behind l id 0 n (let high : n ≤ id = grind (arith, nat_tests) in omega (arith, high))

-- an object with the point and the tag of the row that its id names
abbrev pub IsRow : List (List ℕ) → List ℕ → Object → Type 0
IsRow rows labels o = (o.point ≡ slice_index_or rows o.id []) × (o.tag ≡ slice_index_or labels o.id 0)

pub row_of_id : (rows : List (List ℕ)) (labels : List ℕ) (count : ℕ) (es : List LeafEntry) → AreCounted es count → AllByRecursion (IsRow rows labels) (map object_of es) → (id : ℕ) → id < count →
    (point_of id es ≡ slice_index_or rows id []) × (tag_of id es ≡ slice_index_or labels id 0)
row_of_id rows labels count es each all id low =
    let found = object_with es id (there_counted es count id each low) in
    let is = all_in (IsRow rows labels) (map object_of es) (object_of found.0) all (map-in object_of es found.0 found.1) in (
      ap (λ (i : ℕ). point_of i es) (sym found.2) ∙ point_of-in es found.0 found.1 (once_counted es count found.0.id each) ∙ is.0 ∙ ap (λ (i : ℕ). slice_index_or rows i []) found.2,
      ap (λ (i : ℕ). tag_of i es) (sym found.2) ∙ tag_of-in es found.0 found.1 (once_counted es count found.0.id each) ∙ is.1 ∙ ap (λ (i : ℕ). slice_index_or labels i 0) found.2,
    )

pub points_all : (es : List LeafEntry) (i : ℕ) (xs : List (List ℕ)) → ((k : ℕ) → k < length xs → point_of (i + k) es ≡ get_or xs k []) → points_from es i (length xs) ≡ xs
points_all es i [] each = refl
points_all es i (x ∷ xs) each =
    ap (λ (p : List ℕ). p ∷ points_from es (i + 1) (length xs)) (ap (λ (j : ℕ). point_of j es) (let e : i ≡ i + 0 = omega arith in e) ∙ each 0 (omega arith))
    ∙ ap (λ (r : List (List ℕ)). x ∷ r) (points_all es (i + 1) xs (λ k low. ap (λ (j : ℕ). point_of j es) (let e : i + 1 + k ≡ i + suc k = omega arith in e) ∙ each (suc k) (omega (arith, low))))

pub tags_all : (es : List LeafEntry) (i : ℕ) (xs : List ℕ) → ((k : ℕ) → k < length xs → tag_of (i + k) es ≡ get_or xs k 0) → tags_from es i (length xs) ≡ xs
tags_all es i [] each = refl
tags_all es i (x ∷ xs) each =
    ap (λ (p : ℕ). p ∷ tags_from es (i + 1) (length xs)) (ap (λ (j : ℕ). tag_of j es) (let e : i ≡ i + 0 = omega arith in e) ∙ each 0 (omega arith))
    ∙ ap (λ (r : List ℕ). x ∷ r) (tags_all es (i + 1) xs (λ k low. ap (λ (j : ℕ). tag_of j es) (let e : i + 1 + k ≡ i + suc k = omega arith in e) ∙ each (suc k) (omega (arith, low))))
