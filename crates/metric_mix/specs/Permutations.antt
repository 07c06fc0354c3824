-- Permutations, and the number of pairs of places that two of them order differently (M. G. Kendall, 1938).
use Rattle.std.specs.Prelude.{ℕ, zero, suc, ◌==◌, ◌&&◌, Bool, true, not, List, [], ◌∷◌, ◌++◌, length, take, map, nat_lt, count_by, if◌then◌else◌}
use Rattle.std.specs.List.{list_any, zip}
use Rattle.metric_laws.specs.Space.{Space}

-- whether each number below n is in the list
abbrev pub holds_below : ℕ → List ℕ → Bool
holds_below zero p = true
holds_below (suc n) p = list_any (λ x. x == n) p && holds_below n p

-- whether the list is a permutation of the numbers from 0 to n - 1
abbrev pub is_permutation : ℕ → List ℕ → Bool
is_permutation n p = (length p == n) && holds_below n p

-- each pair of elements, the earlier element first
abbrev pub pairs_of : {X : Type 0} → List X → List (X × X)
pairs_of [] = []
pairs_of (x ∷ xs) = map (λ y. (x, y)) xs ++ pairs_of xs

-- whether exactly one of the two holds
abbrev pub exactly_one : Bool → Bool → Bool
exactly_one x y = if x then not y else y

-- whether two lists order a pair of places differently; `i` and `j` are what they hold at the two places
abbrev pub is_discordant : (ℕ × ℕ) × (ℕ × ℕ) → Bool
is_discordant (i, j) = exactly_one (nat_lt i.0 j.0) (nat_lt i.1 j.1)

-- the number of pairs of places, among the first n, that two lists order differently
abbrev pub kendall_distance : ℕ → List ℕ → List ℕ → ℕ
kendall_distance n a b = count_by is_discordant (pairs_of (zip (take n a) (take n b)))

-- the space of permutations
abbrev pub kendall_space : ℕ → Space
kendall_space n = record { dimension = n; is_point = is_permutation n; dist = kendall_distance n }
