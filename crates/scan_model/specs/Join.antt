-- The answer of a scan over two lists of points to a join.
use Rattle.std.specs.Prelude.{ℕ, Bool, ◌+◌, List, [], ◌∷◌, ◌++◌, filter, nat_le}
use Rattle.metric_laws.specs.Space.{Space}
use Rattle.scan_model.specs.declared.hit.Pair.{Pair}

-- the point p, with the id i, paired with each right point; the first right point has the id j
abbrev pub pairs_from : Space → ℕ → List ℕ → ℕ → List (List ℕ) → List Pair
pairs_from s i p j [] = []
pairs_from s i p j (q ∷ points) = record { left = i; right = j; dist = s.dist p q } ∷ pairs_from s i p (j + 1) points

-- each left point with each right point; the first left point has the id i
abbrev pub all_pairs : Space → ℕ → List (List ℕ) → List (List ℕ) → List Pair
all_pairs s i [] right = []
all_pairs s i (p ∷ left) right = pairs_from s i p 0 right ++ all_pairs s (i + 1) left right

-- whether a pair is no further apart than r
abbrev pub is_close : ℕ → Pair → Bool
is_close r pair = nat_le pair.dist r

-- the pairs within r, by the left id, then by the right
abbrev pub join_pairs : Space → List (List ℕ) → List (List ℕ) → ℕ → List Pair
join_pairs s left right r = filter (is_close r) (all_pairs s 0 left right)
