-- The plain double loop over points and seeds.
use Rattle.std.specs.Prelude.{ℕ, List}
use Rattle.std.specs.List.{flat_map}
use Rattle.metric_laws.specs.Space.{Space}
use Rattle.tree_growth.specs.Bulk.{row_of}

-- the distances of the points `ps` to the seeds, which are places of `points`, point by point
abbrev pub distances : Space → List (List ℕ) → List ℕ → List (List ℕ) → List ℕ
distances s points seeds ps = flat_map (row_of s points seeds) ps
