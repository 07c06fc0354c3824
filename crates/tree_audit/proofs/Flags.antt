-- Flags of numbers that were met.
use Rattle.std.proofs.Common.{◌≡◌, ◌≢◌, ℕ, ◌+◌, ◌<◌, ◌≤◌, ◌^◌, ◌==◌, not, Bool, true, false, List, [], ◌∷◌, ◌++◌, length, length-append, set, slice_index_or, inl, inr, refl, sym, ◌∙◌, ap, subst, arith}
use Rattle.std.specs.Prelude.{replicate}
use Rattle.std.proofs.lemmas.Bool.{cases_eq}
use Rattle.std.proofs.lemmas.Bool.Decides.{nat_tests}
use Rattle.std.proofs.lemmas.List.{length-set, get_or-set_same, get_or-set_other, get_or-replicate, length-replicate}
use Rattle.metric_laws.proofs.Published.{all_weaker, all_append}
use Rattle.tree_shape.specs.Tree.{times}
use Rattle.tree_shape.proofs.Published.{times-append, times-past, few}
use Rattle.tree_audit.specs.Met.{IsFlagged, AreFewer}

-- some or none, as a test
abbrev pub is_some : ℕ → Bool
is_some n = not (n == 0)

some_more : (m n : ℕ) → 0 < n → is_some (m + n) ≡ true
some_more m n lt = grind (arith, nat_tests)

one_is : (n : ℕ) → times n (n ∷ []) ≡ 1
one_is n = let same : (n == n) ≡ true = grind (arith, nat_tests) in rw same refl

none_is : (k n : ℕ) → k ≢ n → times k (n ∷ []) ≡ 0
none_is k n differ = let other : (n == k) ≡ false = grind (arith, nat_tests) in rw other refl

pub flagged_none : (n : ℕ) → n < 2 ^ 32 → IsFlagged (replicate n false) []
flagged_none n few = record { few = omega (arith, few, length-replicate n false); small = tt; once = λ k. omega arith; told = λ k lt. get_or-replicate n k false false (omega (arith, length-replicate n false, lt)) }

pub flagged_add : (flags : List Bool) (met : List ℕ) (n : ℕ) → n < length flags → times n met ≡ 0 → IsFlagged flags met → IsFlagged (set flags n true) (met ++ n ∷ [])
flagged_add flags met n within fresh flagged = record {
  few = omega (arith, flagged.few, length-set flags n true);
  small = all_append (λ k. k < length (set flags n true)) met (n ∷ [])
      (all_weaker (λ k. k < length flags) (λ k. k < length (set flags n true)) met (λ k lt. omega (arith, lt, length-set flags n true)) flagged.small) (omega (arith, within, length-set flags n true), tt);
  once = λ k. elim (cases_eq k n) [
    | inl same ↦ subst (λ (j : ℕ). times j (met ++ n ∷ []) ≤ 1) (sym same) (omega (arith, times-append n met (n ∷ []), one_is n, fresh))
    | inr differ ↦ omega (arith, times-append k met (n ∷ []), none_is k n differ, flagged.once k)
  ];
  told = λ k lt. elim (cases_eq k n) [
    | inl same ↦
        subst (λ (j : ℕ). slice_index_or (set flags n true) j false ≡ is_some (times j (met ++ n ∷ []))) (sym same)
        (get_or-set_same flags n true false within ∙ sym (ap is_some (times-append n met (n ∷ []) ∙ ap (λ (m : ℕ). times n met + m) (one_is n)) ∙ some_more (times n met) 1 (omega arith)))
    | inr differ ↦
        get_or-set_other flags n k true false differ ∙ flagged.told k (omega (arith, lt, length-set flags n true))
        ∙ ap is_some (sym (times-append k met (n ∷ []) ∙ ap (λ (m : ℕ). times k met + m) (none_is k n differ) ∙ (let e : times k met + 0 ≡ times k met = omega arith in e)))
  ];
}

-- a number that is not below the limit was not met
pub not_met : (flags : List Bool) (met : List ℕ) (n : ℕ) → length flags ≤ n → IsFlagged flags met → is_some (times n met) ≡ false
not_met flags met n past flagged = ap is_some (times-past met n (length flags) flagged.small past)

-- there are no more of them than the limit
pub few_met : (flags : List Bool) (met : List ℕ) → IsFlagged flags met → length met ≤ length flags
few_met flags met flagged = few (length flags) met flagged.small flagged.once

-- there are fewer than the limit, where 0 is none of them
pub fewer_met : (flags : List Bool) (met : List ℕ) (n : ℕ) → IsFlagged flags (met ++ n ∷ []) → 0 < n → times 0 met ≡ 0 → AreFewer (record { limit = length flags; met = met ++ n ∷ [] })
fewer_met flags met n flagged some none =
    let fresh : times 0 (met ++ n ∷ []) ≡ 0 = omega (arith, times-append 0 met (n ∷ []), none, none_is 0 n (λ same. omega arith)) in
    let long = length-append met (n ∷ []) in
    let low : 0 < length flags = omega (arith, few_met flags (met ++ n ∷ []) flagged) in
    record {
      none = fresh;
      fewer = omega (arith, low, few (length flags) (0 ∷ met ++ n ∷ []) (low, flagged.small) (λ k. each k fresh));
    }
  where
    each : (k : ℕ) → times 0 (met ++ n ∷ []) ≡ 0 → times k (0 ∷ met ++ n ∷ []) ≤ 1
    each k fresh = elim (cases_eq k 0) [
      | inl same ↦ subst (λ (j : ℕ). times j (0 ∷ met ++ n ∷ []) ≤ 1) (sym same) (omega (arith, fresh))
      | inr differ ↦ (let other : (0 == k) ≡ false = grind (arith, nat_tests, differ) in rw other (omega (arith, flagged.once k)))
    ]
