-- How many entries a node may have.
use Rattle.std.specs.Prelude.{ℕ, zero, suc, ◌+◌, ◌*◌, ◌/◌, ◌≤◌, min}

-- the most entries over points of `dim` coordinates, and the least outside the root
abbrev pub most_for : ℕ → ℕ
most_for dim = min 32 (4080 / (20 + 4 * dim))

abbrev pub least_for : ℕ → ℕ
least_for dim = (most_for dim + 1) / 5

-- the least entries of a root, given its height
abbrev pub root_least : ℕ → ℕ
root_least zero = 0
root_least (suc h) = 2

-- from least to most entries
pub record IsFilled (dim least count : ℕ) : Type 0 where
  pub enough : least ≤ count
  pub at_most : count ≤ most_for dim
