-- The tree that bulk loading makes, by this project's own procedure.
use Rattle.std.specs.Prelude.{◌≡◌, ℕ, zero, suc, ◌+◌, ◌^◌, ◌≤◌, max, Bool, true, false, List, [], ◌∷◌, length, map, if◌then◌else◌, nat_le, slice_index, slice_index_or, count_by}
use Rattle.metric_laws.specs.Space.{Space}
use Rattle.tree_growth.specs.declared.rules.Member.{Member}
use Rattle.tree_growth.specs.declared.rules.Group.{Group}
use Rattle.tree_shape.specs.Fill.{most_for, least_for}
use Rattle.tree_shape.specs.Plain.{Object, Plain, Tall, objects_of}
use Rattle.tree_growth.specs.Groups.{entry, group_count, seeds_from, grouped, members_from}

-- what is loaded, and the greatest and the least number of a node's entries
pub record Load : Type 0 where
  pub space : Space
  pub points : List (List ℕ)
  pub tags : List ℕ
  pub most : ℕ
  pub least : ℕ

abbrev pub point_of : Load → ℕ → List ℕ
point_of l k = slice_index_or l.points k []

-- the object of a row
abbrev pub object_at : Load → ℕ → Object
object_at l k = record { id = k; tag = slice_index_or l.tags k 0; point = point_of l k }

-- a point's distances to the seeds, which are given as places of the points
abbrev pub row_of : Space → List (List ℕ) → List ℕ → List ℕ → List ℕ
row_of s points seeds p = map (λ k. s.dist p (slice_index_or points k [])) seeds

-- the distances of the set's objects to the seeds, which are given as places of the set
abbrev pub table_of : Load → List ℕ → List ℕ → List (List ℕ)
table_of l set seeds = map (row_of l.space (map (point_of l) set) seeds) (map (point_of l) set)

-- the groups of the seeds, numbered from `a` on
abbrev pub groups_from : ℕ → List ℕ → List ℕ → List Member → List Group
groups_from a [] set ps = []
groups_from a (s ∷ seeds) set ps = record { seed = slice_index set s; members = members_from a set ps } ∷ groups_from (a + 1) seeds set ps

-- the `g` groups of a set at level `h`
abbrev pub groups_by : Load → ℕ → ℕ → List ℕ → List Group
groups_by l g h set =
    groups_from 0 (seeds_from (length set) g 0 g) set (grouped (entry (table_of l set (seeds_from (length set) g 0 g)))
    (l.least ^ h) (l.most ^ h) g (length set))

-- the groups of a set, which holds places of the rows, at a level above 0
abbrev pub groups_at : Load → Bool → ℕ → List ℕ → List Group
groups_at l is_root h set = groups_by l (group_count l.most l.least is_root (l.most ^ h) (length set)) h set

-- the greatest distance of the objects from the seed
abbrev pub radius_of : Load → List ℕ → List ℕ → ℕ
radius_of l seed [] = 0
radius_of l seed (k ∷ ks) = max (l.space.dist (point_of l k) seed) (radius_of l seed ks)

-- the tree of a set at a level
abbrev pub built_at : Load → Bool → (h : ℕ) → List ℕ → Plain h
built_at l is_root zero set = map (object_at l) set
built_at l is_root (suc h) set =
    map (λ p. record {
      point = point_of l p.seed;
      radius = radius_of l (point_of l p.seed) p.members;
      below = built_at l false h p.members;
    }) (groups_at l is_root (suc h) set)

-- the least height, from `h` on, of a tree that has room for `n` objects
abbrev pub height_from : ℕ → ℕ → ℕ → ℕ → ℕ
height_from most n h zero = h
height_from most n h (suc left) = if nat_le n (most ^ (h + 1)) then h else height_from most n (h + 1) left

abbrev pub height_of : ℕ → ℕ → ℕ
height_of most n = height_from most n 0 n

abbrev pub places_from : ℕ → ℕ → List ℕ
places_from k zero = []
places_from k (suc n) = k ∷ places_from (k + 1) n

-- the places of all rows
abbrev pub places : Load → List ℕ
places l = places_from 0 (length l.points)

-- the tree of all rows
abbrev pub built_of : Load → Tall
built_of l = record { height = height_of l.most (length l.points); tree = built_at l true (height_of l.most (length l.points)) (places l) }

-- the tree of the rows `rows` with their tags, by the space's fill
abbrev pub built : Space → List (List ℕ) → List ℕ → Tall
built s rows tags = built_of (record { space = s; points = rows; tags = tags; most = most_for s.dimension; least = least_for s.dimension })

-- a bulk load keeps its objects: the tree has as many objects of each kind as there are rows of that kind
abbrev pub LoadKeepsObjects : Type 0
LoadKeepsObjects = (l : Load) → 1 ≤ l.most → (kind : Object → Bool) → count_by kind (objects_of (built_of l)) ≡ count_by kind (map (object_at l) (places l))
