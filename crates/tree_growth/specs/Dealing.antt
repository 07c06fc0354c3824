-- How a node with one entry too many is split (VLDB 1997, section 4).
use Rattle.std.specs.Prelude.{ℕ, zero, suc, ◌+◌, ◌-◌, ◌*◌, ◌<◌, max, Bool, true, false, not, List, [], ◌∷◌, length, map, filter, Option, Some, None, if◌then◌else◌, nat_lt, nat_le, ◌==◌, ◌&&◌, slice_index_or, slice_set, slice_range, count_by}
use Rattle.std.specs.List.{flat_map, range_with_len}
use Rattle.metric_laws.specs.Space.{Space}
use Rattle.metric_laws.specs.Pruning.{capped}
use Rattle.tree_growth.specs.declared.rules.Side.{Side}
use Rattle.tree_growth.specs.declared.rules.Side.TheVariants.{First, Second, Open}

-- a routing point and a covering radius
abbrev pub Ball : Type 0
Ball = List ℕ × ℕ

-- the first element with the least number
abbrev pub least_from : {X : Type 0} → (X → ℕ) → X → List X → X
least_from f x [] = x
least_from f x (y ∷ ys) = least_from f (if nat_lt (f y) (f x) then y else x) ys

abbrev pub first_least : {X : Type 0} → (X → ℕ) → List X → Option X
first_least f [] = None
first_least f (x ∷ xs) = Some (least_from f x xs)

-- the radii of a node's entries, which are 0 in a leaf, and the distances between the entries, row by row; a row has the distances
-- to one entry
pub record Table : Type 0 where
  pub radii : List ℕ
  pub distances : List ℕ

abbrev pub size : Table → ℕ
size t = length t.radii

abbrev pub row : Table → ℕ → List ℕ
row t a = slice_range t.distances (a * size t) (a * size t + size t)

-- the distance of entry b to entry a
abbrev pub apart : Table → ℕ → ℕ → ℕ
apart t a b = slice_index_or (row t a) b 0

abbrev pub table_of : Space → List Ball → Table
table_of s bs = record { radii = map (λ b. b.1) bs; distances = flat_map (λ p. map (λ q. s.dist q.0 p.0) bs) bs }

-- whether two sides are the same
abbrev pub is_on : Side → Side → Bool
is_on First First = true
is_on Second Second = true
is_on Open Open = true
is_on _ _ = false

-- the side of the entry at place `i`; the sides of a node's entries are listed by place
abbrev pub side_at : List Side → ℕ → Side
side_at sides i = slice_index_or sides i Open

-- the places of the entries on a side
abbrev pub members : Side → List Side → List ℕ
members on sides = filter (λ i. is_on on (side_at sides i)) (range_with_len 0 (length sides))

-- whether an entry may leave its side: all may but the two promoted ones
abbrev pub may_leave : ℕ → ℕ → Side → List Side → ℕ → Bool
may_leave a b from sides i = is_on from (side_at sides i) && (not (i == a) && not (i == b))

abbrev pub put_on : Side → List Side → Option ℕ → List Side
put_on to sides None = sides
put_on to sides (Some i) = slice_set sides i to

-- a side receives from another side the entry nearest to its own promoted point; ties go to the lowest place
abbrev pub received : Table → ℕ → ℕ → ℕ → Side → Side → List Side → List Side
received t a b own from to sides =
    put_on to sides (first_least (λ i. apart t own i) (filter (may_leave a b from sides) (range_with_len 0 (length sides))))

-- `n` steps, of two kinds in turn
abbrev pub in_turn : {X : Type 0} → ℕ → (X → X) → (X → X) → X → X
in_turn zero f g x = x
in_turn (suc n) f g x = in_turn n g f (f x)

-- each promoted entry is in its own group, and each other entry in the group of the nearer promoted point; ties go to the first
-- group
abbrev pub nearer : Table → ℕ → ℕ → ℕ → Side
nearer t a b i = if i == a then First else (if i == b then Second else (if nat_le (apart t a i) (apart t b i) then First else Second))

abbrev pub by_nearer : Table → ℕ → ℕ → List Side
by_nearer t a b = map (nearer t a b) (range_with_len 0 (size t))

abbrev pub count_on : Side → List Side → ℕ
count_on on sides = count_by (is_on on) sides

-- a group with fewer than `least` entries receives the missing ones
abbrev pub filled_up : Table → ℕ → ℕ → ℕ → ℕ → Side → Side → List Side → List Side
filled_up t a b least own from to sides = in_turn (least - count_on to sides) (received t a b own from to) (received t a b own from to) sides

-- the generalized hyperplane partition
abbrev pub hyperplane : Table → ℕ → ℕ → ℕ → List Side
hyperplane t a b least = filled_up t a b least b First Second (filled_up t a b least a Second First (by_nearer t a b))

-- the promoted entries alone
abbrev pub only_promoted : ℕ → ℕ → ℕ → Side
only_promoted a b i = if i == a then First else (if i == b then Second else Open)

-- the balanced partition: the groups take in turn the nearest of the remaining entries; the first group begins
abbrev pub balanced : Table → ℕ → ℕ → List Side
balanced t a b =
    in_turn (size t - 2) (received t a b a Open First) (received t a b b Open Second) (map (only_promoted a b) (range_with_len 0 (size t)))

-- partition 1 is the hyperplane, partition 2 the balanced one
abbrev pub partitioned : Table → ℕ → ℕ → ℕ → ℕ → List Side
partitioned t a b split least = if split == 1 then hyperplane t a b least else balanced t a b

-- how far an entry reaches from a promoted point: its distance plus its radius, capped
abbrev pub reach : Table → ℕ → ℕ → ℕ
reach t p i = capped (apart t p i) (slice_index_or t.radii i 0)

abbrev pub greatest : List ℕ → ℕ
greatest [] = 0
greatest (x ∷ xs) = max x (greatest xs)

-- the radius of a half
abbrev pub group_radius : Table → ℕ → Side → List Side → ℕ
group_radius t p on sides = greatest (map (reach t p) (members on sides))

-- the cost that the promotion minimizes: the sum of the radii for m_RAD (1), and the greater radius for mM_RAD (2)
abbrev pub cost_of : ℕ → ℕ → ℕ → ℕ
cost_of promote r s = if promote == 1 then r + s else max r s

abbrev pub pair_cost : Table → ℕ → ℕ → ℕ → ℕ × ℕ → ℕ
pair_cost t promote split least p =
    let sides = partitioned t p.0 p.1 split least in cost_of promote (group_radius t p.0 First sides) (group_radius t p.1 Second sides)

-- the pairs of places, the first below the second, in lexicographic order
abbrev pub pairs_with : ℕ → ℕ → List (ℕ × ℕ)
pairs_with n a = map (λ b. (a, b)) (range_with_len (a + 1) (n - (a + 1)))

abbrev pub pairs : ℕ → List (ℕ × ℕ)
pairs n = flat_map (pairs_with n) (range_with_len 0 n)

-- two places below `n`, the first below the second
abbrev pub IsPair : ℕ → ℕ × ℕ → Type 0
IsPair n p = (p.0 < p.1) × (p.1 < n)

abbrev pub or_pair : Option (ℕ × ℕ) → ℕ × ℕ
or_pair None = (0, 1)
or_pair (Some p) = p

-- the promoted places; a node of at least two entries has a pair
abbrev pub promoted : Table → ℕ → ℕ → ℕ → ℕ × ℕ
promoted t promote split least = or_pair (first_least (pair_cost t promote split least) (pairs (size t)))

-- a split: which entries go to the first half, and the balls of the two halves
pub record Split : Type 0 where
  pub mask : List Bool
  pub first : Ball
  pub second : Ball

abbrev pub point_at : List Ball → ℕ → List ℕ
point_at bs i = (slice_index_or bs i ([], 0)).0

abbrev pub split_at : Table → List Ball → ℕ × ℕ → List Side → Split
split_at t bs p sides = record {
  mask = map (is_on First) sides;
  first = (point_at bs p.0, group_radius t p.0 First sides);
  second = (point_at bs p.1, group_radius t p.1 Second sides);
}

-- the split of a node's entries by a promotion and a partition
abbrev pub split_of : Space → ℕ → ℕ → ℕ → List Ball → Split
split_of s promote split least bs =
    let t = table_of s bs in let p = promoted t promote split least in split_at t bs p (partitioned t p.0 p.1 split least)
