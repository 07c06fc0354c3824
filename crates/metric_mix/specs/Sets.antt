-- Sets of numbers, and the distance of two sets (F. Hausdorff, 1914).
use Rattle.std.specs.Prelude.{ℕ, ◌-◌, ◌^◌, ◌==◌, ◌&&◌, ◌||◌, Bool, false, List, [], ◌∷◌, min, max, nat_lt}
use Rattle.std.specs.List.{list_all}
use Rattle.metric_laws.specs.Space.{Space}
use Rattle.metric_laws.specs.Pruning.{gap}
use Rattle.vector_kinds.specs.Vectors.{is_vector}

-- whether the list spells a set: its numbers ascend strictly, and the greatest is repeated to the end
abbrev pub is_spelled : List ℕ → Bool
is_spelled [] = false
is_spelled (x ∷ xs) = list_all (λ y. y == x) xs || (list_all (λ y. nat_lt x y) xs && is_spelled xs)

-- whether the list spells a set of at most n numbers of 32 bits in n places
abbrev pub is_set : ℕ → List ℕ → Bool
is_set n p = is_vector n p && is_spelled p

-- the distance of x from the nearest number of the list; 2 ^ 32 - 1, the greatest distance of two 32-bit numbers, for an empty list
abbrev pub nearest : ℕ → List ℕ → ℕ
nearest x [] = 2 ^ 32 - 1
nearest x (y ∷ ys) = min (gap x y) (nearest x ys)

-- the greatest distance of a number of the first list from the nearest number of the second
abbrev pub farthest : List ℕ → List ℕ → ℕ
farthest [] b = 0
farthest (x ∷ a) b = max (nearest x b) (farthest a b)

-- the greater of that distance in both directions
abbrev pub hausdorff_distance : List ℕ → List ℕ → ℕ
hausdorff_distance a b = max (farthest a b) (farthest b a)

-- the space of sets
abbrev pub hausdorff_space : ℕ → Space
hausdorff_space n = record { dimension = n; is_point = is_set n; dist = hausdorff_distance }
