-- Distances of objects to seeds.
use Rattle.std.specs.Prelude.{◌≡◌, ℕ, List, [], length, map, slice_index_or, All, IsTrue}
use Rattle.std.specs.List.{flat_map}
use Rattle.metric_laws.specs.Space.{Space}
use Rattle.tree_growth.specs.Bulk.{row_of}

-- a row for each object, with `width` distances, one to each seed
pub record Measured : Type 0 where
  pub width : ℕ
  pub table : List (List ℕ)

-- the points of a set of places of the rows; or of seeds that are places of a set's points
abbrev pub points_of : List (List ℕ) → List ℕ → List (List ℕ)
points_of rows set = map (λ k. slice_index_or rows k []) set

-- the distances of points to centres
abbrev pub measured_to : Space → List (List ℕ) → List (List ℕ) → Measured
measured_to s points centres = record { width = length centres; table = map (λ p. map (s.dist p) centres) points }

-- the distances of a set's points to its seeds, which are places of the set
abbrev pub measured : Space → List (List ℕ) → List ℕ → Measured
measured s points seeds = record { width = length seeds; table = map (row_of s points seeds) points }

-- the distances between centres: those of the first to all, of the second to all, and so on
abbrev pub all_apart : Space → List (List ℕ) → List ℕ
all_apart s centres = flat_map (λ c. map (s.dist c) centres) centres

-- objects and centres are points of the space, and `apart` has the distances between the centres
pub record AreMeasurable (s : Space) (objects centres : List (List ℕ)) (apart : List ℕ) : Type 0 where
  pub objects_fit : All (λ p. IsTrue (s.is_point p)) objects
  pub centres_fit : All (λ p. IsTrue (s.is_point p)) centres
  pub apart_is : apart ≡ all_apart s centres
