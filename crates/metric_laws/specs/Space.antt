-- What a metric space is, over points that are lists of numbers.
use Rattle.std.specs.Prelude.{◌≡◌, ℕ, ◌+◌, ◌^◌, ◌<◌, ◌≤◌, Bool, List, length, IsTrue, All}

-- how many coordinates a point has, which lists are points, and the distance of two lists
pub record Space : Type 0 where
  pub dimension : ℕ
  pub is_point : List ℕ → Bool
  pub dist : List ℕ → List ℕ → ℕ

-- the greatest distance
abbrev pub bound : ℕ
bound = 2 ^ 38

-- a point is a list of 1 to 64 numbers of 32 bits, always of the same length; of points the distance is symmetric,
-- 0 exactly for equal ones, within the triangle inequality and within the bound
pub record IsSpace (s : Space) : Type 0 where
  pub some_coordinates : 1 ≤ s.dimension
  pub few_coordinates : s.dimension ≤ 64
  pub long : (a : List ℕ) → IsTrue (s.is_point a) → length a ≡ s.dimension
  pub small : (a : List ℕ) → IsTrue (s.is_point a) → All (λ x. x < 2 ^ 32) a
  pub symmetric : (a b : List ℕ) → IsTrue (s.is_point a) → IsTrue (s.is_point b) → s.dist a b ≡ s.dist b a
  pub zero_same : (a : List ℕ) → IsTrue (s.is_point a) → s.dist a a ≡ 0
  pub same_zero : (a b : List ℕ) → IsTrue (s.is_point a) → IsTrue (s.is_point b) → s.dist a b ≡ 0 → a ≡ b
  pub triangle : (a b c : List ℕ) → IsTrue (s.is_point a) → IsTrue (s.is_point b) → IsTrue (s.is_point c) → s.dist a c ≤ s.dist a b + s.dist b c
  pub bounded : (a b : List ℕ) → IsTrue (s.is_point a) → IsTrue (s.is_point b) → s.dist a b ≤ bound
