-- The tree on pages, read by child numbers, and what a sound one is.
use Rattle.std.specs.Prelude.{◌≡◌, ℕ, zero, suc, ◌+◌, ◌≤◌, ◌<◌, List, [], ◌∷◌, length, map, Option, Some, None, IsTrue, if◌then◌else◌, nat_lt, ◌==◌}
use Rattle.std.specs.List.{AllByRecursion, flat_map}
use Rattle.metric_laws.specs.Space.{Space}
use Rattle.tree_shape.specs.Fill.{IsFilled, least_for, root_least}
use Rattle.tree_shape.specs.declared.live.Live.{Live}
use Rattle.tree_shape.specs.declared.entry.LeafEntry.{LeafEntry}
use Rattle.tree_shape.specs.declared.entry.InnerEntry.{InnerEntry}
use Rattle.tree_shape.specs.declared.entry.Node.{Node}
use Rattle.tree_shape.specs.declared.entry.Node.TheVariants.{Leaf, Inner}

-- the node of each page, where it holds one
abbrev pub Nodes : Type 0
Nodes = ℕ → Option Node

-- the entries of a leaf
abbrev pub leaf_entries : Option Node → List LeafEntry
leaf_entries (Some (Leaf es)) = es
leaf_entries _ = []

-- the entries of an inner node
abbrev pub inner_entries : Option Node → List InnerEntry
inner_entries (Some (Inner level es)) = es
inner_entries _ = []

-- the objects below a page, as deep as the height
abbrev pub objects_at : Nodes → ℕ → ℕ → List LeafEntry
objects_at nodes zero page = leaf_entries (nodes page)
objects_at nodes (suc h) page = flat_map (λ e. objects_at nodes h e.child) (inner_entries (nodes page))

-- the pages from a page down, in pre-order
abbrev pub pages_at : Nodes → ℕ → ℕ → List ℕ
pages_at nodes zero page = page ∷ []
pages_at nodes (suc h) page = page ∷ flat_map (λ e. pages_at nodes h e.child) (inner_entries (nodes page))

-- how often a number stands in a list
abbrev pub times : ℕ → List ℕ → ℕ
times n [] = 0
times n (x ∷ xs) = (if x == n then 1 else 0) + times n xs

-- the distance that is stored beside a point: to the routing point above it, and 0 in the root
abbrev pub parent_distance : Space → Option (List ℕ) → List ℕ → ℕ
parent_distance s None p = 0
parent_distance s (Some q) p = s.dist p q

-- each of the objects lies within the entry's radius
abbrev pub Covers : Space → InnerEntry → List LeafEntry → Type 0
Covers s e os = AllByRecursion (λ o. s.dist o.point e.point ≤ e.radius) os

-- a leaf entry under the routing point `above`
pub record IsSoundObject (s : Space) (above : Option (List ℕ)) (o : LeafEntry) : Type 0 where
  pub point_fits : IsTrue (s.is_point o.point)
  pub parent_is : o.parent ≡ parent_distance s above o.point

-- an inner entry under the routing point `above`, with the objects below it
pub record IsSoundEntry (s : Space) (above : Option (List ℕ)) (os : List LeafEntry) (e : InnerEntry) : Type 0 where
  pub point_fits : IsTrue (s.is_point e.point)
  pub parent_is : e.parent ≡ parent_distance s above e.point
  pub covers : Covers s e os

-- the subtree of a page, at a level, with at least `least` entries, under the routing point `above`
abbrev pub IsSoundAt : Space → Nodes → ℕ → ℕ → Option (List ℕ) → ℕ → Type 0
IsSoundAt s nodes zero least above page =
    (es : List LeafEntry) × (nodes page ≡ Some (Leaf es)) × IsFilled s.dimension least (length es) × AllByRecursion (IsSoundObject s above) es
IsSoundAt s nodes (suc h) least above page =
    (es : List InnerEntry) × (nodes page ≡ Some (Inner (suc h) es)) × IsFilled s.dimension least (length es)
    × AllByRecursion (λ e. IsSoundEntry s above (objects_at nodes h e.child) e × IsSoundAt s nodes h (least_for s.dimension) (Some e.point) e.child) es

-- the objects of the live tree, in pre-order
abbrev pub objects : Nodes → Live → List LeafEntry
objects nodes t = objects_at nodes t.height t.root

-- a page that may hold a node of the live tree
abbrev pub IsNodePage : Live → ℕ → Type 0
IsNodePage t page = (3 ≤ page) × (page < t.pages)

-- The live tree is sound. Every page that is reached may hold a node and is reached once. Its node has the level of its depth and a
-- valid number of entries. Every point is in the space. Every stored distance is the one to the routing point above. Every object
-- lies within the radius of each routing entry above it. The ids are 0 to count - 1, each once.
pub record IsSoundTree (s : Space) (nodes : Nodes) (t : Live) : Type 0 where
  pub parts : IsSoundAt s nodes t.height (root_least t.height) None t.root
  pub within : AllByRecursion (IsNodePage t) (pages_at nodes t.height t.root)
  pub once : (page : ℕ) → times page (pages_at nodes t.height t.root) ≤ 1
  pub ids : (id : ℕ) → times id (map (λ e. e.id) (objects nodes t)) ≡ (if nat_lt id t.count then 1 else 0)

-- the point of the first object with the id
abbrev pub point_of : ℕ → List LeafEntry → List ℕ
point_of id [] = []
point_of id (e ∷ es) = if e.id == id then e.point else point_of id es

-- the points of n ids from `id` on
abbrev pub points_from : List LeafEntry → ℕ → ℕ → List (List ℕ)
points_from es id zero = []
points_from es id (suc n) = point_of id es ∷ points_from es (id + 1) n

-- the points in order of id
abbrev pub points_by_id : Nodes → Live → List (List ℕ)
points_by_id nodes t = points_from (objects nodes t) 0 t.count

-- the tag of the first object with the id
abbrev pub tag_of : ℕ → List LeafEntry → ℕ
tag_of id [] = 0
tag_of id (e ∷ es) = if e.id == id then e.tag else tag_of id es

-- the tags of n ids from `id` on
abbrev pub tags_from : List LeafEntry → ℕ → ℕ → List ℕ
tags_from es id zero = []
tags_from es id (suc n) = tag_of id es ∷ tags_from es (id + 1) n

-- the tags in order of id
abbrev pub tags_by_id : Nodes → Live → List ℕ
tags_by_id nodes t = tags_from (objects nodes t) 0 t.count
