-- A set has only one spelling in a given number of places.
use Rattle.std.specs.Prelude.{◌≡◌, ℕ, ◌≤◌, ◌==◌, ◌&&◌, Bool, true, List, [], ◌∷◌, length, refl, nat_lt}
use Rattle.std.specs.List.{list_all}
use Rattle.std.proofs.Common.{arith, ap, sym, ◌∙◌, inl, inr, ◌⊎◌, subst}
use Rattle.std.proofs.lemmas.Bool.{and_parts, or_cases, eqb-true, ltb-true}
use Rattle.metric_laws.specs.Lists.{IsIn}
use Rattle.metric_mix.specs.Sets.{is_spelled}

-- what a test of all elements tells of one element
in_list_all : (p : ℕ → Bool) (xs : List ℕ) (z : ℕ) → list_all p xs ≡ true → IsIn z xs → p z ≡ true
in_list_all p [] z all there = absurd there
in_list_all p (x ∷ xs) z all there =
    let parts = and_parts (p x) (list_all p xs) all in
    elim there [ inl same ↦ ap p same ∙ parts.0 | inr deeper ↦ in_list_all p xs z parts.1 deeper ]

-- one number in each place, or a first number below a spelling
abbrev Spells : ℕ → List ℕ → Type 0
Spells x xs = (list_all (λ y. y == x) xs ≡ true) ⊎ ((list_all (λ y. nat_lt x y) xs ≡ true) × (is_spelled xs ≡ true))

spells : (x : ℕ) (xs : List ℕ) → is_spelled (x ∷ xs) ≡ true → Spells x xs
spells x xs spelled =
    elim (or_cases (list_all (λ y. y == x) xs) (list_all (λ y. nat_lt x y) xs && is_spelled xs) spelled) [
      | inl flat ↦ inl flat
      | inr rises ↦ inr (and_parts (list_all (λ y. nat_lt x y) xs) (is_spelled xs) rises)
    ]

-- the first number is the least
pub first_least : (x : ℕ) (xs : List ℕ) (z : ℕ) → is_spelled (x ∷ xs) ≡ true → IsIn z (x ∷ xs) → x ≤ z
first_least x xs z spelled there =
    elim there [
      | inl same ↦ omega arith
      | inr deeper ↦ elim (spells x xs spelled) [
        | inl flat ↦ (let e = eqb-true z x (in_list_all (λ y. y == x) xs z flat deeper) in omega arith)
        | inr rises ↦ (let less = ltb-true x z (in_list_all (λ y. nat_lt x y) xs z rises.0 deeper) in omega arith)
      ]
    ]

-- where all places hold one number
flat_equal : (x : ℕ) (xs ys : List ℕ) → length xs ≡ length ys → list_all (λ y. y == x) xs ≡ true → list_all (λ y. y == x) ys ≡ true → xs ≡ ys
flat_equal x [] [] long first second = refl
flat_equal x [] (v ∷ ys) long first second = absurd (omega arith)
flat_equal x (u ∷ xs) [] long first second = absurd (omega arith)
flat_equal x (u ∷ xs) (v ∷ ys) long first second =
    let left = and_parts (u == x) (list_all (λ y. y == x) xs) first in
    let right = and_parts (v == x) (list_all (λ y. y == x) ys) second in
    let heads : u ≡ v = eqb-true u x left.0 ∙ sym (eqb-true v x right.0) in
    let tails : xs ≡ ys = flat_equal x xs ys (omega arith) left.1 right.1 in
    λ i. heads i ∷ tails i

-- one number in each place spells no set that has a second number
flat_or_not : (x : ℕ) (xs ys : List ℕ) → list_all (λ y. y == x) xs ≡ true → ((z : ℕ) → IsIn z (x ∷ ys) → IsIn z (x ∷ xs)) →
    list_all (λ y. nat_lt x y) ys ≡ true → is_spelled ys ≡ true → ⊥
flat_or_not x xs [] flat within rises spelled = cc
flat_or_not x xs (v ∷ ys) flat within rises spelled =
    let less = ltb-true x v (in_list_all (λ y. nat_lt x y) (v ∷ ys) v rises (inl refl)) in
    elim (within v (inr (inl refl))) [
      | inl same ↦ omega arith
      | inr deeper ↦ (let same = eqb-true v x (in_list_all (λ y. y == x) xs v flat deeper) in omega arith)
    ]

-- what is in the rest of one list is in the rest of the other
rest_within : (x : ℕ) (xs ys : List ℕ) → list_all (λ y. nat_lt x y) xs ≡ true → ((z : ℕ) → IsIn z (x ∷ xs) → IsIn z (x ∷ ys)) → (z : ℕ) → IsIn z xs → IsIn z ys
rest_within x xs ys rises within z there =
    elim (within z (inr there)) [
      | inl same ↦ (let less = ltb-true x z (in_list_all (λ y. nat_lt x y) xs z rises there) in absurd (omega arith))
      | inr deeper ↦ deeper
    ]

-- two spellings with one first number
rest_equal : (x : ℕ) (xs ys : List ℕ) →
    (is_spelled xs ≡ true → is_spelled ys ≡ true → ((z : ℕ) → IsIn z xs → IsIn z ys) → ((z : ℕ) → IsIn z ys → IsIn z xs) → xs ≡ ys) →
    length xs ≡ length ys → Spells x xs → Spells x ys → ((z : ℕ) → IsIn z (x ∷ xs) → IsIn z (x ∷ ys)) → ((z : ℕ) → IsIn z (x ∷ ys) → IsIn z (x ∷ xs)) → xs ≡ ys
rest_equal x xs ys deeper long left right there back =
    elim left [
      | inl flat ↦ elim right [
        | inl other ↦ flat_equal x xs ys long flat other
        | inr rises ↦ absurd (flat_or_not x xs ys flat back rises.0 rises.1)
      ]
      | inr climbs ↦ elim right [
        | inl other ↦ absurd (flat_or_not x ys xs other there climbs.0 climbs.1)
        | inr rises ↦ deeper climbs.1 rises.1 (rest_within x xs ys climbs.0 there) (rest_within x ys xs rises.0 back)
      ]
    ]

pub one_spelling : (a b : List ℕ) → length a ≡ length b → is_spelled a ≡ true → is_spelled b ≡ true →
    ((z : ℕ) → IsIn z a → IsIn z b) → ((z : ℕ) → IsIn z b → IsIn z a) → a ≡ b
one_spelling [] [] long first second there back = refl
one_spelling [] (y ∷ b) long first second there back = absurd (omega arith)
one_spelling (x ∷ a) [] long first second there back = absurd (omega arith)
one_spelling (x ∷ a) (y ∷ b) long first second there back =
    let down = first_least x a y first (back y (inl refl)) in
    let up = first_least y b x second (there x (inl refl)) in
    let heads : y ≡ x = omega arith in
    let right : Spells x b = (let P : ℕ → Type 0 = λ u. Spells u b in subst P heads (spells y b second)) in
    let forth : (z : ℕ) → IsIn z (x ∷ a) → IsIn z (x ∷ b) = (let P : ℕ → Type 0 = λ u. (z : ℕ) → IsIn z (x ∷ a) → IsIn z (u ∷ b) in subst P heads there) in
    let returned : (z : ℕ) → IsIn z (x ∷ b) → IsIn z (x ∷ a) = (let P : ℕ → Type 0 = λ u. (z : ℕ) → IsIn z (u ∷ b) → IsIn z (x ∷ a) in subst P heads back) in
    let tails : a ≡ b = rest_equal x a b (λ s t f g. one_spelling a b (omega arith) s t f g) (omega arith) (spells x a first) right forth returned in
    λ i. sym heads i ∷ tails i
