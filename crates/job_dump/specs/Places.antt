-- Where the objects of a tree stand.
use Rattle.std.specs.Prelude.{◌≡◌, ◌≢◌, ℕ, ◌<◌, ◌/◌, ◌%◌, List, [], ◌∷◌, slice_get, slice_index, Option, Some}
use Rattle.metric_laws.specs.Lists.{IsIn}
use Rattle.tree_shape.specs.declared.live.Live.{Live}
use Rattle.tree_shape.specs.declared.entry.LeafEntry.{LeafEntry}
use Rattle.tree_shape.specs.Tree.{Nodes, leaf_entries}
use Rattle.page_store.specs.Tours.{Tours}
use Rattle.job_dump.specs.Rows.{due, objects_on, times_among, times_on}

-- the entry at a place, which is a leaf's page times 32, plus the number of the entry
abbrev pub entry_at : Nodes → ℕ → Option LeafEntry
entry_at nodes place = slice_get (leaf_entries (nodes (place / 32))) (place % 32)

-- one of the objects has the id, and stands at the place
pub record StandsAt (nodes : Nodes) (objects : List LeafEntry) (id place : ℕ) : Type 0 where
  pub entry : LeafEntry
  pub among : IsIn entry objects
  pub id_is : entry.id ≡ id
  pub stands : entry_at nodes place ≡ Some entry

-- The numbers are the places of the objects met so far, by id. An id that was not met has no place, or 0. Each other was met once.
pub record Notes (nodes : Nodes) (numbers : List ℕ) (met : List LeafEntry) : Type 0 where
  pub unmet : (id : ℕ) → slice_index numbers id ≡ 0 → times_among met id ≡ 0
  pub noted : (id : ℕ) → slice_index numbers id ≢ 0 → (times_among met id ≡ 1) × StandsAt nodes met id (slice_index numbers id)

-- the walk of the live tree is whole, and the numbers are the places of the objects that it met
pub record IsNoted (nodes : Nodes) (live : Live) (numbers : List ℕ) : Type 0 where
  pub pages : List ℕ
  pub walk : Tours nodes (live.root ∷ []) pages []
  pub notes : Notes nodes numbers (objects_on nodes pages)

-- the walk of the live tree is whole, it meets each id once, and the numbers are the objects' places in order of id
pub record ArePlaces (nodes : Nodes) (live : Live) (numbers : List ℕ) : Type 0 where
  pub pages : List ℕ
  pub walk : Tours nodes (live.root ∷ []) pages []
  pub once : (id : ℕ) → times_on nodes pages id ≡ due live.count id
  pub stand : (id : ℕ) → id < live.count → StandsAt nodes (objects_on nodes pages) id (slice_index numbers id)
