-- The answer of a scan over a list of points to a query.
use Rattle.std.specs.Prelude.{ℕ, Bool, ◌+◌, List, [], ◌∷◌, filter, take, nat_le}
use Rattle.metric_laws.specs.Space.{Space, bound}
use Rattle.scan_model.specs.declared.hit.Hit.{Hit}
use Rattle.scan_model.specs.Hits.{hit_cmp}
use Rattle.scan_model.specs.Ordered.{ordered}

-- each point's distance from q, with its place in the list as its id; the first has the id `first`
abbrev pub hits_from : Space → List ℕ → ℕ → List (List ℕ) → List Hit
hits_from s q first [] = []
hits_from s q first (p ∷ points) = record { id = first; dist = s.dist p q } ∷ hits_from s q (first + 1) points

-- whether a hit lies within r
abbrev pub is_within : ℕ → Hit → Bool
is_within r h = nat_le h.dist r

-- the hits within r, by distance, then by id
abbrev pub range_hits : Space → List (List ℕ) → List ℕ → ℕ → List Hit
range_hits s points q r = ordered hit_cmp (filter (is_within r) (hits_from s q 0 points))

-- the first k of all hits
abbrev pub nearest_hits : Space → List (List ℕ) → List ℕ → ℕ → List Hit
nearest_hits s points q k = take k (range_hits s points q bound)
