-- The greatest of the differences of two lists.
use Rattle.std.specs.Prelude.{◌≡◌, ℕ, ◌+◌, ◌≤◌, List, [], ◌∷◌, length, refl}
use Rattle.std.proofs.Common.{arith}
use Rattle.vector_kinds.specs.Vectors.{max_distance}

pub max_symmetric : (a b : List ℕ) → max_distance a b ≡ max_distance b a
max_symmetric [] [] = refl
max_symmetric [] (y ∷ b) = refl
max_symmetric (x ∷ a) [] = refl
max_symmetric (x ∷ a) (y ∷ b) = omega (arith, max_symmetric a b)

pub max_same : (a : List ℕ) → max_distance a a ≡ 0
max_same [] = refl
max_same (x ∷ a) = omega (arith, max_same a)

pub max_apart : (a b : List ℕ) → length a ≡ length b → max_distance a b ≡ 0 → a ≡ b
max_apart [] [] long none = refl
max_apart [] (y ∷ b) long none = absurd (omega arith)
max_apart (x ∷ a) [] long none = absurd (omega arith)
max_apart (x ∷ a) (y ∷ b) long none =
    let here : x ≡ y = omega arith in
    let there : a ≡ b = max_apart a b (omega arith) (omega arith) in
    λ i. here i ∷ there i

pub max_triangle : (a b c : List ℕ) → length a ≡ length b → length b ≡ length c → max_distance a c ≤ max_distance a b + max_distance b c
max_triangle [] b c first second = omega arith
max_triangle (x ∷ a) [] c first second = absurd (omega arith)
max_triangle (x ∷ a) (y ∷ b) [] first second = absurd (omega arith)
max_triangle (x ∷ a) (y ∷ b) (z ∷ c) first second =
    omega (arith, max_triangle a b c (omega arith) (omega arith))
