-- The tree without pages and stored distances.
use Rattle.std.specs.Prelude.{◌≡◌, ℕ, zero, suc, List, map}
use Rattle.std.specs.List.{flat_map}
use Rattle.tree_shape.specs.declared.entry.LeafEntry.{LeafEntry}
use Rattle.tree_shape.specs.declared.live.Live.{Live}
use Rattle.tree_shape.specs.Tree.{Nodes, leaf_entries, inner_entries, objects_at}

-- an object: its id, what the caller calls it, and its point
pub record Object : Type 0 where
  pub id : ℕ
  pub tag : ℕ
  pub point : List ℕ

-- a routing point with its covering radius, and what lies below it
pub record Branch (X : Type 0) : Type 0 where
  pub point : List ℕ
  pub radius : ℕ
  pub below : X

-- a tree, given its height
abbrev pub Plain : ℕ → Type 0
Plain zero = List Object
Plain (suc h) = List (Branch (Plain h))

-- a tree with its height
pub record Tall : Type 0 where
  pub height : ℕ
  pub tree : Plain height

-- the objects of a tree, from the left
abbrev pub objects_in : (h : ℕ) → Plain h → List Object
objects_in zero os = os
objects_in (suc h) bs = flat_map (λ b. objects_in h b.below) bs

abbrev pub objects_of : Tall → List Object
objects_of t = objects_in t.height t.tree

-- a leaf entry without its stored distance
abbrev pub object_of : LeafEntry → Object
object_of e = record { id = e.id; tag = e.tag; point = e.point }

-- the tree that is read from a page
abbrev pub tree_at : Nodes → (h : ℕ) → ℕ → Plain h
tree_at nodes zero page = map object_of (leaf_entries (nodes page))
tree_at nodes (suc h) page = map (λ e. record { point = e.point; radius = e.radius; below = tree_at nodes h e.child }) (inner_entries (nodes page))

-- the live tree
abbrev pub tree_of : Nodes → Live → Tall
tree_of nodes t = record { height = t.height; tree = tree_at nodes t.height t.root }

-- the tree that is read from a page has the objects below the page
abbrev pub SameObjects : Type 0
SameObjects = (nodes : Nodes) (h page : ℕ) → objects_in h (tree_at nodes h page) ≡ map object_of (objects_at nodes h page)
