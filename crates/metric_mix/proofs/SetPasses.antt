-- Spellings and distances of sets, from a place on.
use Rattle.std.proofs.Common.{◌≡◌, ◌≤◌, ◌<◌, ℕ, zero, suc, ◌+◌, ◌-◌, ◌^◌, min, max, Bool, true, false, List, [], ◌∷◌, length, get_or, drop, refl, sym, ◌∙◌, ap, arith, add-one, inl, inr}
use Rattle.std.specs.Prelude.{fold, ◌==◌, ◌&&◌, ◌||◌, nat_lt}
use Rattle.std.specs.List.{list_all}
use Rattle.std.proofs.lemmas.Bool.{and_from, and_left, and_right, lt-ltb}
use Rattle.std.proofs.lemmas.Bool.Decides.{nat_tests}
use Rattle.metric_laws.specs.Lists.{IsIn}
use Rattle.metric_laws.specs.Pruning.{gap}
use Rattle.metric_mix.specs.Sets.{is_spelled, nearest, farthest}
use Rattle.metric_mix.specs.Spellings.{first_least}
use Rattle.metric_mix.specs.HausdorffLaws.{nearest_low}

-- the numbers of a spelling are above what is below its first
above_first : (x y : ℕ) (ys zs : List ℕ) → x < y → is_spelled (y ∷ ys) ≡ true → ((z : ℕ) → IsIn z zs → IsIn z (y ∷ ys)) → list_all (λ z. nat_lt x z) zs ≡ true
above_first x y ys [] less spelled within = refl
above_first x y ys (z ∷ zs) less spelled within =
    let least = first_least y ys z spelled (within z (inl refl)) in
    and_from (nat_lt x z) (list_all (λ v. nat_lt x v) zs) (lt-ltb x z (omega arith)) (above_first x y ys zs less spelled (λ v there. within v (inr there)))

-- a first number that is below the next
ascent : (x y : ℕ) (ys : List ℕ) → x < y → is_spelled (x ∷ y ∷ ys) ≡ is_spelled (y ∷ ys)
ascent x y ys less =
    let apart : (y == x) ≡ false = grind (arith, nat_tests) in
    let not_flat : list_all (λ z. z == x) (y ∷ ys) ≡ false = and_left (y == x) (list_all (λ z. z == x) ys) apart in
    ap (λ (b : Bool). b || (list_all (λ z. nat_lt x z) (y ∷ ys) && is_spelled (y ∷ ys))) not_flat ∙ by_rest (is_spelled (y ∷ ys)) refl
  where
    by_rest : (b : Bool) → is_spelled (y ∷ ys) ≡ b → (list_all (λ z. nat_lt x z) (y ∷ ys) && is_spelled (y ∷ ys)) ≡ is_spelled (y ∷ ys)
    by_rest true spelled = ap (λ (c : Bool). c && is_spelled (y ∷ ys)) (above_first x y ys (y ∷ ys) less spelled (λ z there. there))
    by_rest false spelled = and_right (list_all (λ z. nat_lt x z) (y ∷ ys)) (is_spelled (y ∷ ys)) spelled ∙ sym spelled

ascent_at : (i : ℕ) (p : List ℕ) → suc i < length p → get_or p i 0 < get_or p (suc i) 0 → is_spelled (drop i p) ≡ is_spelled (drop (suc i) p)
ascent_at i [] within less = absurd (omega arith)
ascent_at i (x ∷ []) within less = absurd (omega arith)
ascent_at zero (x ∷ y ∷ p) within less = ascent x y p less
ascent_at (suc i) (x ∷ y ∷ p) within less = ascent_at i (y ∷ p) (omega arith) less

pub ascends : (i : ℕ) (p : List ℕ) → i + 1 < length p → get_or p i 0 < get_or p (i + 1) 0 → is_spelled (drop i p) ≡ is_spelled (drop (i + 1) p)
ascends i p within less = rw (add-one i) (ascent_at i p (omega arith) (rw (add-one i) at less))

-- one number alone
pub alone : (i : ℕ) (p : List ℕ) → length p ≡ suc i → is_spelled (drop i p) ≡ true
alone i [] long = absurd (omega arith)
alone zero (x ∷ []) long = refl
alone (suc i) (x ∷ []) long = absurd (omega arith)
alone zero (x ∷ y ∷ p) long = absurd (omega arith)
alone (suc i) (x ∷ y ∷ p) long = alone i (y ∷ p) (omega arith)

-- a running least difference
nearest_is : (start x : ℕ) (b : List ℕ) → start ≤ 2 ^ 32 - 1 → fold (λ least y. min least (gap x y)) start b ≡ min start (nearest x b)
nearest_is start x [] low = omega arith
nearest_is start x (y ∷ b) low = omega (arith, nearest_is (min start (gap x y)) x b (omega arith))

pub nearest_fold : (x : ℕ) (b : List ℕ) → fold (λ least y. min least (gap x y)) (2 ^ 32 - 1) b ≡ nearest x b
nearest_fold x b = omega (arith, nearest_is (2 ^ 32 - 1) x b (omega arith), nearest_low x b)

farthest_at : (i : ℕ) (a b : List ℕ) → i < length a → farthest (drop i a) b ≡ max (nearest (get_or a i 0) b) (farthest (drop (suc i) a) b)
farthest_at i [] b within = absurd (omega arith)
farthest_at zero (x ∷ a) b within = refl
farthest_at (suc i) (x ∷ a) b within = farthest_at i a b (omega arith)

pub farthest_more : (i : ℕ) (a b : List ℕ) → i < length a → farthest (drop i a) b ≡ max (nearest (get_or a i 0) b) (farthest (drop (i + 1) a) b)
farthest_more i a b within = rw (add-one i) (farthest_at i a b within)
