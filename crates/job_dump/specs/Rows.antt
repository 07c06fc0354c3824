-- The objects of a tree that is walked by child numbers, in order of id.
use Rattle.std.specs.Prelude.{◌≡◌, ◌⊎◌, ℕ, zero, suc, ◌+◌, ◌<◌, List, [], ◌∷◌, map, if◌then◌else◌, nat_lt}
use Rattle.std.specs.List.{flat_map}
use Rattle.tree_shape.specs.declared.live.Live.{Live}
use Rattle.tree_shape.specs.declared.entry.LeafEntry.{LeafEntry}
use Rattle.tree_shape.specs.Tree.{Nodes, leaf_entries, point_of, tag_of, times}
use Rattle.page_store.specs.Tours.{Tours}

-- the objects in the leaves on some pages
abbrev pub objects_on : Nodes → List ℕ → List LeafEntry
objects_on nodes pages = flat_map (λ page. leaf_entries (nodes page)) pages

-- how often an id stands among objects, and in the leaves on some pages
abbrev pub times_among : List LeafEntry → ℕ → ℕ
times_among objects id = times id (map (λ e. e.id) objects)

abbrev pub times_on : Nodes → List ℕ → ℕ → ℕ
times_on nodes pages id = times_among (objects_on nodes pages) id

-- how often an id has to stand in a tree of `count` objects: each of 0 to count - 1 once
abbrev pub due : ℕ → ℕ → ℕ
due count id = if nat_lt id count then 1 else 0

-- the tag and the point of an id
abbrev pub row_of : List LeafEntry → ℕ → ℕ × List ℕ
row_of objects id = (tag_of id objects, point_of id objects)

-- the tags and points of n ids from `id` on
abbrev pub rows_from : List LeafEntry → ℕ → ℕ → List (ℕ × List ℕ)
rows_from objects id zero = []
rows_from objects id (suc n) = row_of objects id ∷ rows_from objects (id + 1) n

-- the walk of the live tree is whole, it meets each id once, and these are the tags and points in order of id
pub record HasRows (nodes : Nodes) (live : Live) (rows : List (ℕ × List ℕ)) : Type 0 where
  pub pages : List ℕ
  pub walk : Tours nodes (live.root ∷ []) pages []
  pub once : (id : ℕ) → times_on nodes pages id ≡ due live.count id
  pub rows_are : rows ≡ rows_from (objects_on nodes pages) 0 live.count

-- the walk meets the id more often than the tree may have it; or it is whole and has not met the id, which is due
pub record IsOutOfPlace (nodes : Nodes) (live : Live) (id : ℕ) : Type 0 where
  pub pages : List ℕ
  pub left : List ℕ
  pub walk : Tours nodes (live.root ∷ []) pages left
  pub wrong : (due live.count id < times_on nodes pages id) ⊎ ((left ≡ []) × (times_on nodes pages id < due live.count id))
