-- Points of numbers of 32 bits, and three distances of them.
use Rattle.std.specs.Prelude.{ℕ, ◌^◌, ◌==◌, ◌&&◌, Bool, not, List, [], ◌∷◌, length, min, max, nat_lt, count_by, sum_by, map, if◌then◌else◌}
use Rattle.std.specs.List.{list_all, zip}
use Rattle.metric_laws.specs.Space.{Space, bound}
use Rattle.metric_laws.specs.Pruning.{gap}

-- whether the list has this many coordinates, each of 32 bits
abbrev pub is_vector : ℕ → List ℕ → Bool
is_vector dim p = (length p == dim) && list_all (λ x. nat_lt x (2 ^ 32)) p

-- the differences of the coordinates, place by place
abbrev pub gaps : List ℕ → List ℕ → List ℕ
gaps a b = map (λ p. gap p.0 p.1) (zip a b)

-- the greatest of the numbers, 0 where there is none
abbrev pub greatest : List ℕ → ℕ
greatest [] = 0
greatest (x ∷ xs) = max x (greatest xs)

-- the number of places that differ
abbrev pub hamming_distance : List ℕ → List ℕ → ℕ
hamming_distance a b = min (count_by (λ p. not (p.0 == p.1)) (zip a b)) bound

-- the sum of the differences
abbrev pub l1_distance : List ℕ → List ℕ → ℕ
l1_distance a b = min (sum_by (λ p. gap p.0 p.1) (zip a b)) bound

-- the greatest difference
abbrev pub max_distance : List ℕ → List ℕ → ℕ
max_distance a b = greatest (gaps a b)

-- the distance by its number: 1 Hamming, 2 L1, 3 the maximum
abbrev pub vector_distance : ℕ → List ℕ → List ℕ → ℕ
vector_distance kind a b = if kind == 1 then hamming_distance a b else (if kind == 2 then l1_distance a b else max_distance a b)

-- the space of the points with this many coordinates under the distance of this number
abbrev pub vector_space : ℕ → ℕ → Space
vector_space kind dim = record { dimension = dim; is_point = is_vector dim; dist = vector_distance kind }
