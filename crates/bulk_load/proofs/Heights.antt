-- The least height that is high enough, and the places of all rows.
use Rattle.std.proofs.Common.{◌≡◌, ℕ, zero, suc, ◌+◌, ◌-◌, ◌*◌, ◌^◌, ◌<◌, ◌≤◌, true, false, List, [], ◌∷◌, ◌++◌, refl, sym, ap, ◌∙◌, arith, append_assoc}
use Rattle.std.specs.Prelude.{nat_le}
use Rattle.std.proofs.lemmas.Bool.Decides.{nat_tests}
use Rattle.std.proofs.Math.Nat.{pow-suc}
use Rattle.tree_growth.specs.Bulk.{height_from, height_of, places_from}

pub high_enough : (most n h left : ℕ) → n ≤ most ^ (h + 1) → height_from most n h left ≡ h
high_enough most n h zero up = refl
high_enough most n h (suc left) up = let e : nat_le n (most ^ (h + 1)) ≡ true = grind (arith, nat_tests) in rw e refl

pub too_low : (most n h left next : ℕ) → left ≡ suc next → most ^ (h + 1) < n → height_from most n h left ≡ height_from most n (h + 1) next
too_low most n h left next is up =
    let e : nat_le n (most ^ (h + 1)) ≡ false = grind (arith, nat_tests) in ap (height_from most n h) is ∙ (rw e refl)

-- one level more
pub higher : (most n h room next : ℕ) → room ≡ most ^ (h + 1) → next ≡ room * most → room < n → h < room → height_from most n h (n - h) ≡ height_of most n →
    (next ≡ most ^ (h + 1 + 1)) × (height_from most n (h + 1) (n - (h + 1)) ≡ height_of most n)
higher most n h room next is grown low below so_far = (
  grown ∙ ap (λ (r : ℕ). r * most) is ∙ sym (pow-suc most (h + 1)) ∙ ap (λ (k : ℕ). most ^ k) (let e : suc (h + 1) ≡ h + 1 + 1 = omega arith in e),
  sym (too_low most n h (n - h) (n - (h + 1)) (omega (arith, low, below)) (omega (arith, is, low))) ∙ so_far,
)

-- one place more
pub one_place : (k count : ℕ) (out next whole : List ℕ) → k < count → next ≡ out ++ k ∷ [] → out ++ places_from k (count - k) ≡ whole → next ++ places_from (k + 1) (count - (k + 1)) ≡ whole
one_place k count out next whole low grown before =
    ap (λ (ks : List ℕ). ks ++ places_from (k + 1) (count - (k + 1))) grown ∙ append_assoc out (k ∷ []) (places_from (k + 1) (count - (k + 1)))
    ∙ ap (λ (n : ℕ). out ++ places_from k n) (let e : suc (count - (k + 1)) ≡ count - k = omega (arith, low) in e) ∙ before
