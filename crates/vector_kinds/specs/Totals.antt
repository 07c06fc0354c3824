-- A distance of lists that adds up a distance of their places.
use Rattle.std.specs.Prelude.{◌≡◌, ℕ, ◌+◌, ◌≤◌, List, [], ◌∷◌, length, refl, sum_by}
use Rattle.std.specs.List.{zip}
use Rattle.std.proofs.Common.{arith, ap, ◌∙◌}
use Rattle.std.proofs.lemmas.List.Sums.{sum_by-cons}

-- a distance of numbers
pub record IsPlaceDistance (g : ℕ → ℕ → ℕ) : Type 0 where
  pub symmetric : (x y : ℕ) → g x y ≡ g y x
  pub same : (x : ℕ) → g x x ≡ 0
  pub apart : (x y : ℕ) → g x y ≡ 0 → x ≡ y
  pub triangle : (x y z : ℕ) → g x z ≤ g x y + g y z

-- the distances of the places together
abbrev pub total : (ℕ → ℕ → ℕ) → List ℕ → List ℕ → ℕ
total g [] b = 0
total g (x ∷ a) [] = 0
total g (x ∷ a) (y ∷ b) = g x y + total g a b

pub total_is : (g : ℕ → ℕ → ℕ) (a b : List ℕ) → sum_by (λ p. g p.0 p.1) (zip a b) ≡ total g a b
total_is g [] b = refl
total_is g (x ∷ a) [] = refl
total_is g (x ∷ a) (y ∷ b) = sum_by-cons (λ p. g p.0 p.1) (x, y) (zip a b) ∙ ap (λ n. g x y + n) (total_is g a b)

pub total_symmetric : (g : ℕ → ℕ → ℕ) → IsPlaceDistance g → (a b : List ℕ) → total g a b ≡ total g b a
total_symmetric g is [] [] = refl
total_symmetric g is [] (y ∷ b) = refl
total_symmetric g is (x ∷ a) [] = refl
total_symmetric g is (x ∷ a) (y ∷ b) = omega (arith, is.symmetric x y, total_symmetric g is a b)

pub total_same : (g : ℕ → ℕ → ℕ) → IsPlaceDistance g → (a : List ℕ) → total g a a ≡ 0
total_same g is [] = refl
total_same g is (x ∷ a) = omega (arith, is.same x, total_same g is a)

pub total_apart : (g : ℕ → ℕ → ℕ) → IsPlaceDistance g → (a b : List ℕ) → length a ≡ length b → total g a b ≡ 0 → a ≡ b
total_apart g is [] [] long none = refl
total_apart g is [] (y ∷ b) long none = absurd (omega arith)
total_apart g is (x ∷ a) [] long none = absurd (omega arith)
total_apart g is (x ∷ a) (y ∷ b) long none =
    let here : x ≡ y = is.apart x y (omega arith) in
    let there : a ≡ b = total_apart g is a b (omega arith) (omega arith) in
    λ i. here i ∷ there i

pub total_triangle : (g : ℕ → ℕ → ℕ) → IsPlaceDistance g → (a b c : List ℕ) → length a ≡ length b → length b ≡ length c →
    total g a c ≤ total g a b + total g b c
total_triangle g is [] b c first second = omega arith
total_triangle g is (x ∷ a) [] c first second = absurd (omega arith)
total_triangle g is (x ∷ a) (y ∷ b) [] first second = absurd (omega arith)
total_triangle g is (x ∷ a) (y ∷ b) (z ∷ c) first second =
    omega (arith, is.triangle x y z, total_triangle g is a b c (omega arith) (omega arith))
