-- Worked examples of the rules.
use Rattle.std.specs.Prelude.{◌≡◌, ℕ, ◌+◌, ◌==◌, true, List, [], ◌∷◌, ◌++◌, length, map, replicate, refl}
use Rattle.std.specs.List.{range_with_len}
use Rattle.metric_laws.specs.Space.{Space}
use Rattle.metric_laws.specs.Pruning.{gap}
use Rattle.tree_growth.specs.declared.rules.Side.TheVariants.{First, Second}
use Rattle.tree_shape.specs.Fill.{most_for}
use Rattle.tree_shape.specs.Plain.{Object, Tall}
use Rattle.tree_growth.specs.Dealing.{Ball, table_of, members, partitioned}
use Rattle.tree_growth.specs.Insertion.{Rules, rules_for, rules, placed_by}
use Rattle.tree_growth.specs.declared.rules.Group.{Group}
use Rattle.tree_growth.specs.Bulk.{Load, groups_at, places_from, radius_of, height_of, built_of}

abbrev pub total : List ℕ → List ℕ → ℕ
total [] b = 0
total (x ∷ a) [] = 0
total (x ∷ a) (y ∷ b) = gap x y + total a b

-- the numbers, each a point of one coordinate
abbrev pub line : Space
line = record { dimension = 1; is_point = λ p. length p == 1; dist = total }

abbrev pub numbers : ℕ → List Ball
numbers n = map (λ x. (x ∷ [], 0)) (range_with_len 0 n)

pub most_at_the_edges : (most_for 1 ≡ 32) × (most_for 26 ≡ 32) × (most_for 27 ≡ 31) × (most_for 64 ≡ 14)
most_at_the_edges = (refl, refl, refl, refl)

-- 0 to 6, where 0 and 1 are promoted and a group has three at least
pub hyperplane_of_numbers :
    (members First (partitioned (table_of line (numbers 7)) 0 1 1 3) ≡ 0 ∷ 2 ∷ 3 ∷ [])
    × (members Second (partitioned (table_of line (numbers 7)) 0 1 1 3) ≡ 1 ∷ 4 ∷ 5 ∷ 6 ∷ [])
hyperplane_of_numbers = (refl, refl)

-- 0 to 6, where 0 and 6 are promoted
pub balance_of_numbers :
    (members First (partitioned (table_of line (numbers 7)) 0 6 2 2) ≡ 0 ∷ 1 ∷ 2 ∷ 3 ∷ [])
    × (members Second (partitioned (table_of line (numbers 7)) 0 6 2 2) ≡ 4 ∷ 5 ∷ 6 ∷ [])
balance_of_numbers = (refl, refl)

abbrev pub object_at : ℕ → ℕ → Object
object_at id x = record { id = id; tag = 0; point = x ∷ [] }

-- these numbers one after another
abbrev pub all_placed : Rules → ℕ → List ℕ → Tall → Tall
all_placed R id [] t = t
all_placed R id (x ∷ xs) t = all_placed R (id + 1) xs (placed_by R (object_at id x) t)

-- in nodes of one to three entries, and in those of a page
abbrev pub narrow : ℕ → ℕ → Rules
narrow promote split = rules_for line promote split 3 1

abbrev pub whole : ℕ → ℕ → Rules
whole promote split = rules line promote split

abbrev pub empty : Tall
empty = record { height = 0; tree = [] }

-- by the lesser greatest radius and the hyperplane; the root is split, too
pub placed_by_hyperplane :
    all_placed (narrow 2 1) 0 (0 ∷ 4 ∷ 9 ∷ 1 ∷ 20 ∷ 7 ∷ 3 ∷ 8 ∷ []) empty
    ≡ record {
      height = 2;
      tree =
          record { point = 20 ∷ []; radius = 0; below = record { point = 20 ∷ []; radius = 0; below = object_at 4 20 ∷ [] } ∷ [] }
          ∷ record {
            point = 4 ∷ [];
            radius = 5;
            below =
                record { point = 0 ∷ []; radius = 1; below = object_at 0 0 ∷ object_at 3 1 ∷ [] }
                ∷ record { point = 4 ∷ []; radius = 1; below = object_at 1 4 ∷ object_at 6 3 ∷ [] }
                ∷ record { point = 8 ∷ []; radius = 1; below = object_at 2 9 ∷ object_at 5 7 ∷ object_at 7 8 ∷ [] } ∷ [];
          } ∷ [];
    }
placed_by_hyperplane = refl

-- balanced halves; the last radius reaches from 9 to 20
pub placed_in_balance :
    all_placed (narrow 2 2) 0 (0 ∷ 4 ∷ 9 ∷ 1 ∷ 20 ∷ 7 ∷ 3 ∷ 8 ∷ []) empty
    ≡ record {
      height = 1;
      tree =
          record { point = 0 ∷ []; radius = 1; below = object_at 0 0 ∷ object_at 3 1 ∷ [] }
          ∷ record { point = 4 ∷ []; radius = 3; below = object_at 1 4 ∷ object_at 5 7 ∷ object_at 6 3 ∷ [] }
          ∷ record { point = 9 ∷ []; radius = 11; below = object_at 2 9 ∷ object_at 4 20 ∷ object_at 7 8 ∷ [] } ∷ [];
    }
placed_in_balance = refl

-- the numbers 0 to 32: the last one splits the leaf
pub split_of_numbers :
    all_placed (whole 2 1) 0 (places_from 0 33) empty
    ≡ record {
      height = 1;
      tree =
          record { point = 7 ∷ []; radius = 8; below = map (λ i. object_at i i) (places_from 0 16) }
          ∷ record { point = 24 ∷ []; radius = 8; below = map (λ i. object_at i i) (places_from 16 17) } ∷ [];
    }
split_of_numbers = refl

abbrev pub load_of : List ℕ → ℕ → ℕ → Load
load_of xs most least = record { space = line; points = map (λ x. x ∷ []) xs; tags = xs; most = most; least = least }

-- the numbers 0 to 32: the first group had five objects and received object 5
pub groups_of_numbers :
    (height_of 32 33 ≡ 1)
    × (groups_at (load_of (places_from 0 33) 32 6) true 1 (places_from 0 33)
    ≡ record { seed = 0; members = places_from 0 6 } ∷ record { seed = 8; members = places_from 6 7 }
    ∷ record { seed = 16; members = places_from 13 8 } ∷ record { seed = 24; members = places_from 21 12 } ∷ [])
groups_of_numbers = (refl, refl)

-- and their radii
pub radii_of_numbers :
    map (λ (g : Group). radius_of (load_of (places_from 0 33) 32 6) (g.seed ∷ []) g.members) (groups_at (load_of (places_from 0 33) 32 6) true 1 (places_from 0 33))
    ≡ 5 ∷ 4 ∷ 4 ∷ 8 ∷ []
radii_of_numbers = refl

-- 33 equal points: the first group is filled first, and three groups receive five objects each
pub groups_of_equals :
    map (λ (g : Group). g.members) (groups_at (load_of (replicate 33 5) 32 6) true 1 (places_from 0 33))
    ≡ (0 ∷ places_from 18 6 ++ places_from 25 8) ∷ (1 ∷ 2 ∷ 3 ∷ 4 ∷ 5 ∷ 8 ∷ []) ∷ (6 ∷ 7 ∷ 9 ∷ 10 ∷ 11 ∷ 16 ∷ []) ∷ (12 ∷ 13 ∷ 14 ∷ 15 ∷ 17 ∷ 24 ∷ []) ∷ []
groups_of_equals = refl

-- a group that is full
pub groups_with_a_full_one :
    map (λ (g : Group). g.members) (groups_at (load_of (0 ∷ 0 ∷ 50 ∷ 0 ∷ 60 ∷ 0 ∷ 70 ∷ 0 ∷ 0 ∷ []) 4 1) true 1 (places_from 0 9))
    ≡ (0 ∷ 1 ∷ 3 ∷ 5 ∷ []) ∷ (2 ∷ 7 ∷ 8 ∷ []) ∷ (4 ∷ []) ∷ (6 ∷ []) ∷ []
groups_with_a_full_one = refl

-- an empty load, and one of two rows
pub small_loads :
    (built_of (load_of [] 32 6) ≡ record { height = 0; tree = [] })
    × (built_of (load_of (7 ∷ 9 ∷ []) 32 6) ≡ record { height = 0; tree = record { id = 0; tag = 7; point = 7 ∷ [] } ∷ record { id = 1; tag = 9; point = 9 ∷ [] } ∷ [] })
small_loads = (refl, refl)
