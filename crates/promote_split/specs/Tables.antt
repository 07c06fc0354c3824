-- Tables of distances, and how many distances were computed.
use Rattle.std.specs.Prelude.{◌≡◌, ℕ, ◌+◌, ◌*◌, ◌^◌, ◌≤◌, ◌<◌, length}
use Rattle.std.specs.List.{AllByRecursion}
use Rattle.metric_laws.specs.Space.{bound}
use Rattle.tree_growth.specs.Dealing.{Table, size}

-- a distance of each entry to each, and nothing above the bound
pub record IsTable (t : Table) : Type 0 where
  pub square : length t.distances ≡ size t * size t
  pub radii_within : AllByRecursion (λ r. r ≤ bound) t.radii
  pub distances_within : AllByRecursion (λ d. d ≤ bound) t.distances

-- a 64-bit count rose by `n`, where the sum is below 2^64
abbrev pub HasCounted : ℕ → ℕ → ℕ → Type 0
HasCounted n old new = old + n < 2 ^ 64 → new ≡ old + n
