-- The pages that a carried log needs.
use Rattle.std.proofs.Common.{◌≡◌, ℕ, zero, suc, ◌+◌, ◌<◌, ◌≤◌, ◌==◌, get_or, arith, List, [], ◌∷◌, length, map, take, refl, sym, ap, subst, ◌∙◌}
use Rattle.std.specs.Prelude.{All, Contains}
use Rattle.std.specs.List.{dedup}
use Rattle.std.specs.List.Sorted.{IsPermutation, IsSorted, IsStrictlyIncreasing}
use Rattle.std.specs.List.Retain.{IsFiltered, DiffersFromLast}
use Rattle.std.specs.Ordering.{nat_cmp}
use Rattle.std.proofs.lemmas.List.{take_all}
use Rattle.std.proofs.lemmas.List.Elements.{Contains-get_or}
use Rattle.std.proofs.lemmas.List.Filters.{dedup_is}
use Rattle.std.proofs.lemmas.List.Kept.{Contains-dedup_nat, Contains-from_dedup}
use Rattle.std.proofs.lemmas.List.Sorted.{Contains-permutation, IsPermutation-sym}
use Rattle.std.proofs.lemmas.Map.Keys.{IsStrictlyIncreasing-dedup}
use Rattle.log_model.specs.declared.marks.Record.{Record}
use Rattle.log_model.specs.declared.logs.Log.{Log}
use Rattle.seal_log.specs.Carrying.{needed_pages, AreNeeded}

pub are_needed : (log : Log) (n : ℕ) (records : List Record) (pages ordered kept : List ℕ) → length records ≤ n → records ≡ log.records → pages ≡ 0 ∷ 1 ∷ 2 ∷ map (λ (r : Record). r.page) (take n records)
    → IsPermutation pages ordered → IsSorted nat_cmp ordered → IsFiltered (DiffersFromLast (λ x y. x == y)) [] ordered kept → AreNeeded log kept
are_needed log n records pages ordered kept all same are moved up filtered = record {
  ascend = subst IsStrictlyIncreasing (sym is) (IsStrictlyIncreasing-dedup ordered up);
  which = λ page. (
    λ held. subst (λ (ps : List ℕ). Contains ps page) whole (Contains-permutation ordered pages page (IsPermutation-sym pages ordered moved) (Contains-from_dedup (λ x y. x == y) ordered page (subst (λ (ps : List ℕ). Contains ps page) is held))),
    λ held. subst (λ (ps : List ℕ). Contains ps page) (sym is) (Contains-dedup_nat ordered page (Contains-permutation pages ordered page moved (subst (λ (ps : List ℕ). Contains ps page) (sym whole) held))),
  );
}
  where
    is : kept ≡ dedup (λ x y. x == y) ordered
    is = dedup_is (λ x y. x == y) ordered kept filtered

    whole : pages ≡ needed_pages log
    whole = are ∙ ap (λ (rs : List Record). 0 ∷ 1 ∷ 2 ∷ map (λ (r : Record). r.page) rs) (take_all n records all ∙ same)

-- ---- they are pages of the file

needed-below : (log : Log) (n page : ℕ) → 3 ≤ n → All (λ (r : Record). r.page < n) log.records → Contains (needed_pages log) page → page < n
needed-below log n page some below (zero, within, is) = omega (arith, is)
needed-below log n page some below (suc zero, within, is) = omega (arith, is)
needed-below log n page some below (suc (suc zero), within, is) = omega (arith, is)
needed-below log n page some below (suc (suc (suc k)), within, is) = named log.records k (λ j d lt. below j d lt) (omega arith) is
  where
    named : (records : List Record) (k : ℕ) → ((j : ℕ) (d : Record) → j < length records → (get_or records j d).page < n) → k < length (map (λ (r : Record). r.page) records) → get_or (map (λ (r : Record). r.page) records) k page ≡ page → page < n
    named [] k each lt is = absurd (omega arith)
    named (r ∷ rs) zero each lt is = let low = each 0 r (omega arith) in omega (arith, is)
    named (r ∷ rs) (suc k) each lt is = named rs k (λ j d within. each (suc j) d (omega arith)) (omega arith) is

pub pages-within : (log : Log) (n : ℕ) (pages : List ℕ) → AreNeeded log pages → 3 ≤ n → All (λ (r : Record). r.page < n) log.records → (k d : ℕ) → k < length pages → get_or pages k d < n
pages-within log n pages needed some below k d lt = needed-below log n (get_or pages k d) some below ((needed.which (get_or pages k d)).0 (Contains-get_or pages k d lt))

-- a place of strictly increasing numbers is no greater than the number there
pub at-least : (xs : List ℕ) (k : ℕ) → IsStrictlyIncreasing xs → k < length xs → k ≤ get_or xs k 0
at-least xs zero up lt = omega arith
at-least xs (suc k) up lt =
    let before = at-least xs k up (omega arith) in
    let step = up k (omega arith) in
    let next : k + 1 ≡ suc k = omega arith in
    omega (arith, before, subst (λ (j : ℕ). get_or xs k 0 < get_or xs j 0) next step)

pub increasing-few : (xs : List ℕ) (n : ℕ) → IsStrictlyIncreasing xs → ((k d : ℕ) → k < length xs → get_or xs k d < n) → length xs ≤ n
increasing-few xs n up below = by_length (length xs) refl
  where
    by_length : (m : ℕ) → length xs ≡ m → length xs ≤ n
    by_length zero is = omega arith
    by_length (suc m) is = let last = below m 0 (omega arith) in let low = at-least xs m up (omega arith) in omega arith
