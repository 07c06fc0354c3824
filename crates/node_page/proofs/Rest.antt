-- Bytes that are 0.
use Rattle.std.proofs.Common.{◌≡◌, inl, inr, ℕ, zero, suc, ◌+◌, ◌-◌, ◌<◌, ◌≤◌, ◌==◌, Bool, true, false, List, take, drop, slice_index, refl, sym, ◌∙◌, arith, eq-eqb}
use Rattle.std.proofs.lemmas.List.{get_or-drop, get_or-take}
use Rattle.std.proofs.lemmas.Bool.Decides.{nat_tests}
use Rattle.std.proofs.lemmas.Bool.{cases_lt, eqb-true, false_from_ne_true, true≢false}
use Rattle.node_page.specs.Bytes.{AreZero, are_zero}

-- the test says that the bytes are 0
pub zero_by_test : (at n : ℕ) (page : List ℕ) → are_zero at n page ≡ true → AreZero at (at + n) page
unfolding are_zero
zero_by_test at zero page is k from to = absurd (let e : ⊥ = omega arith in e)
zero_by_test at (suc n) page is k from to = elim (cases_lt at k) [
  | inl above ↦ (let rest : are_zero (suc at) n page ≡ true = grind (arith, nat_tests) in zero_by_test (suc at) n page rest k (omega arith) (omega arith))
  | inr here ↦ (let e : k ≡ at = omega arith in grind (arith, nat_tests))
]

-- the test finds that the bytes are 0
pub test_by_zero : (at n : ℕ) (page : List ℕ) → AreZero at (at + n) page → are_zero at n page ≡ true
unfolding are_zero
test_by_zero at zero page zeros = refl
test_by_zero at (suc n) page zeros =
    let here : slice_index page at ≡ 0 = zeros at (omega arith) (omega arith) in
    let rest : are_zero (suc at) n page ≡ true = test_by_zero (suc at) n page (λ k from to. zeros k (omega arith) (omega arith)) in
    grind (arith, nat_tests)

-- one byte that isn't 0
pub not_by_place : (at n k : ℕ) (page : List ℕ) → at ≤ k → k < at + n → (slice_index page k ≡ 0 → ⊥) → are_zero at n page ≡ false
not_by_place at n k page from to differs = by_cases (are_zero at n page) refl
  where
    by_cases : (b : Bool) → are_zero at n page ≡ b → are_zero at n page ≡ false
    by_cases true is = absurd (differs (zero_by_test at n page is k from to))
    by_cases false is = is

same_tests : (a b : Bool) → (a ≡ true → b ≡ true) → (b ≡ true → a ≡ true) → a ≡ b
same_tests true b f g = sym (f refl)
same_tests false true f g = g refl
same_tests false false f g = refl

-- The bytes of a part of a page are 0 exactly where a number is that is at least each of them, and 0 where they all are.
pub test_in_part : (at n : ℕ) (page : List ℕ) (any i : ℕ) → i ≡ n → ((k : ℕ) → k < i → slice_index (take n (drop at page)) k ≤ any)
    → (((k : ℕ) → k < i → slice_index (take n (drop at page)) k ≡ 0) → any ≡ 0) → (any == 0) ≡ are_zero at n page
test_in_part at n page any i whole least none = same_tests (any == 0) (are_zero at n page) all_zero nothing
  where
    place : (k : ℕ) → k < n → slice_index (take n (drop at page)) k ≡ slice_index page (at + k)
    place k below = get_or-take n (drop at page) k 0 below ∙ get_or-drop at page k 0

    low : any ≡ 0 → (k : ℕ) → k < n → slice_index page (at + k) ≤ 0
    low zero_is k below = omega (arith, place k below, least k (omega arith))

    all_zero : (any == 0) ≡ true → are_zero at n page ≡ true
    all_zero is = test_by_zero at n page (λ k from to.
        let there : at + (k - at) ≡ k = omega arith in
        let le : slice_index page (at + (k - at)) ≤ 0 = low (eqb-true any 0 is) (k - at) (omega arith) in
        let here : slice_index page k ≤ 0 = rw (← there) le in
        omega (arith, here))

    nothing : are_zero at n page ≡ true → (any == 0) ≡ true
    nothing is = eq-eqb any 0 (none (λ k below. place k (omega arith) ∙ zero_by_test at n page is (at + k) (omega arith) (omega arith)))

-- a part of bytes that are 0
part_zero : (at n from m : ℕ) (page : List ℕ) → from ≤ at → at + n ≤ from + m → are_zero from m page ≡ true → are_zero at n page ≡ true
part_zero at n from m page low high is = test_by_zero at n page (λ k above below. zero_by_test from m page is k (omega arith) (omega arith))

-- bytes with a part that is not 0
pub part_not_zero : (at n from m : ℕ) (page : List ℕ) → from ≤ at → at + n ≤ from + m → are_zero at n page ≡ false → are_zero from m page ≡ false
part_not_zero at n from m page low high fails = false_from_ne_true (are_zero from m page) (λ is. true≢false (sym (part_zero at n from m page low high is) ∙ fails))

-- bytes that are 0 up to a place, and the next ones too
pub more_zero : (from at n : ℕ) (page : List ℕ) → AreZero from at page → are_zero at n page ≡ true → AreZero from (at + n) page
more_zero from at n page zeros is k above below = elim (cases_lt k at) [
  | inl before ↦ zeros k above before
  | inr behind ↦ zero_by_test at n page is k behind below
]

-- bytes that are 0 up to a place, and their last part
pub whole_by_last : (at last n from m : ℕ) (page : List ℕ) → last ≤ at → from ≤ last → last + n ≡ from + m → AreZero from at page → are_zero last n page ≡ are_zero from m page
whole_by_last at last n from m page shared low ends zeros = same_tests (are_zero last n page) (are_zero from m page) whole (part_zero last n from m page low (omega arith))
  where
    whole : are_zero last n page ≡ true → are_zero from m page ≡ true
    whole is = test_by_zero from m page (λ k above below. elim (cases_lt k at) [
      | inl before ↦ zeros k above before
      | inr behind ↦ zero_by_test last n page is k (omega arith) (omega arith)
    ])
