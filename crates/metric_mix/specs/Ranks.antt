-- How many numbers of a list are below or above a number. This determines a permutation of 0 to n - 1.
use Rattle.std.specs.Prelude.{◌≡◌, ℕ, zero, suc, ◌+◌, ◌-◌, ◌≤◌, ◌<◌, ◌==◌, ◌||◌, Bool, true, false, cond, List, [], ◌∷◌, length, refl, nat_lt, slice_index_or, All, IsTrue}
use Rattle.std.specs.List.{list_any}
use Rattle.std.proofs.Common.{arith, ap, sym, ◌∙◌, inl, inr}
use Rattle.std.proofs.lemmas.Bool.{and_parts, cases_lt, eqb-true}
use Rattle.std.proofs.lemmas.Bool.Decides.{nat_tests}
use Rattle.metric_mix.specs.Permutations.{holds_below, is_permutation}

-- the number of elements below v
abbrev pub low : ℕ → List ℕ → ℕ
low v [] = 0
low v (x ∷ p) = cond (nat_lt x v) 1 0 + low v p

-- the number of elements above v
abbrev pub high : ℕ → List ℕ → ℕ
high v [] = 0
high v (x ∷ p) = cond (nat_lt v x) 1 0 + high v p

low_few : (v : ℕ) (p : List ℕ) → low v p ≤ length p
low_few v [] = omega arith
low_few v (x ∷ p) = let rest = low_few v p in grind (arith, nat_tests)

low_rises : (v : ℕ) (p : List ℕ) → low v p ≤ low (suc v) p
low_rises v [] = omega arith
low_rises v (x ∷ p) = let rest = low_rises v p in grind (arith, nat_tests)

low_and_high : (v : ℕ) (p : List ℕ) → low (suc v) p + high v p ≡ length p
low_and_high v [] = refl
low_and_high v (x ∷ p) = let rest = low_and_high v p in grind (arith, nat_tests)

pub high_falls : (v w : ℕ) (p : List ℕ) → v ≤ w → high w p ≤ high v p
high_falls v w [] up = omega arith
high_falls v w (x ∷ p) up = let rest = high_falls v w p up in grind (arith, nat_tests)

low_grows : (v w : ℕ) (p : List ℕ) → v ≤ w → low v p ≤ low w p
low_grows v w [] up = omega arith
low_grows v w (x ∷ p) up = let rest = low_grows v w p up in grind (arith, nat_tests)

pub permutation_long : (n : ℕ) (p : List ℕ) → IsTrue (is_permutation n p) → length p ≡ n
permutation_long n p is_point = eqb-true (length p) n (and_parts (length p == n) (holds_below n p) is_point).0

-- a number of the list is counted from the next number on
low_step : (v : ℕ) (p : List ℕ) → list_any (λ x. x == v) p ≡ true → suc (low v p) ≤ low (suc v) p
low_step v [] stands = absurd (cc)
low_step v (x ∷ p) stands = cases (x == v) refl stands (low_step v p)
  where
    cases : (b : Bool) → (x == v) ≡ b → (b || list_any (λ y. y == v) p) ≡ true →
        (list_any (λ y. y == v) p ≡ true → suc (low v p) ≤ low (suc v) p) → suc (low v (x ∷ p)) ≤ low (suc v) (x ∷ p)
    cases true e either ih = let here = eqb-true x v e in let rest = low_rises v p in grind (arith, nat_tests)
    cases false e either ih = let rest = ih either in grind (arith, nat_tests)

holds_less : (n v : ℕ) (p : List ℕ) → v ≤ n → holds_below n p ≡ true → holds_below v p ≡ true
holds_less zero zero p less holds = refl
holds_less zero (suc v) p less holds = absurd (omega arith)
holds_less (suc n) v p less holds =
    elim (cases_lt v (suc n)) [
      | inl under ↦ holds_less n v p (omega arith) (and_parts (list_any (λ x. x == n) p) (holds_below n p) holds).1
      | inr over ↦ (let same : suc n ≡ v = omega arith in ap (λ (m : ℕ). holds_below m p) (sym same) ∙ holds)
    ]

-- each number below n takes a place of its own
low_climbs : (n v : ℕ) (p : List ℕ) → v ≤ n → holds_below n p ≡ true → low v p + n ≤ low n p + v
low_climbs zero zero p less holds = omega arith
low_climbs zero (suc v) p less holds = absurd (omega arith)
low_climbs (suc n) v p less holds =
    let parts = and_parts (list_any (λ x. x == n) p) (holds_below n p) holds in
    elim (cases_lt v (suc n)) [
      | inl under ↦ (let rest = low_climbs n v p (omega arith) parts.1 in let step = low_step n p parts.0 in omega arith)
      | inr over ↦ (let same : suc n ≡ v = omega arith in let equal : low (suc n) p ≡ low v p = ap (λ (m : ℕ). low m p) same in omega arith)
    ]

-- in a permutation of 0 to n - 1 there are v numbers below v
low_is : (n v : ℕ) (p : List ℕ) → v ≤ n → IsTrue (is_permutation n p) → low v p ≡ v
low_is n v p less is_point =
    let parts = and_parts (length p == n) (holds_below n p) is_point in
    let long = eqb-true (length p) n parts.0 in
    let up = low_climbs v 0 p (omega arith) (holds_less n v p less parts.1) in
    let down = low_climbs n v p less parts.1 in
    let few = low_few n p in
    omega arith

pub high_is : (n v : ℕ) (p : List ℕ) → IsTrue (is_permutation n p) → high v p ≡ n - suc v
high_is n v p is_point =
    let long = permutation_long n p is_point in
    let split = low_and_high v p in
    let few = low_few (suc v) p in
    elim (cases_lt v n) [
      | inl under ↦ (let here = low_is n (suc v) p (omega arith) is_point in omega arith)
      | inr over ↦ (let all = low_is n n p (omega arith) is_point in let more = low_grows n (suc v) p (omega arith) in omega arith)
    ]

-- each number of a permutation is below n
all_low : (n : ℕ) (p : List ℕ) → low n p ≡ length p → (k d : ℕ) → k < length p → slice_index_or p k d < n
all_low n [] all k d within = absurd (omega arith)
all_low n (x ∷ p) all zero d within = let few = low_few n p in grind (arith, nat_tests)
all_low n (x ∷ p) all (suc k) d within =
    let few = low_few n p in
    let rest : low n p ≡ length p = grind (arith, nat_tests) in
    all_low n p rest k d (omega arith)

pub permutation_below : (n : ℕ) (p : List ℕ) → IsTrue (is_permutation n p) → All (λ x. x < n) p
permutation_below n p is_point =
    let long = permutation_long n p is_point in
    let all = low_is n n p (omega arith) is_point in
    λ k d within. all_low n p (omega arith) k d within
