-- What a join pairs.
use Rattle.std.specs.Prelude.{◌≡◌, ℕ, ◌<◌, List, [], map, Option, Some, None, slice_index_or}
use Rattle.tree_shape.specs.declared.entry.LeafEntry.{LeafEntry}
use Rattle.tree_shape.specs.declared.entry.InnerEntry.{InnerEntry}
use Rattle.tree_shape.specs.declared.entry.Node.{Node}
use Rattle.tree_shape.specs.declared.entry.Node.TheVariants.{Leaf, Inner}
use Rattle.tree_shape.specs.Entries.{leaf_of, inner_of}
use Rattle.log_model.specs.declared.items.Held.{Held}
use Rattle.log_model.specs.declared.items.Held.TheVariants as held
use Rattle.log_model.specs.declared.items.Seen.{Seen}
use Rattle.log_model.specs.declared.items.Seen.TheVariants as seen
use Rattle.log_model.specs.Counts.{entry_count}

-- a subtree or an object of one of the two trees; a root has no centre
pub data Item : Type 0 where
  Subtree : (page rank : ℕ) (centre : Option (List ℕ)) (radius : ℕ) → Item
  Object : (id : ℕ) (point : List ℕ) → Item

-- an object of a leaf as an item
abbrev pub object_item : LeafEntry → Item
object_item e = Object e.id e.point

-- a subtree that an inner node of this level names as an item
abbrev pub subtree_item : ℕ → InnerEntry → Item
subtree_item level e = Subtree e.child level (Some e.point) e.radius

-- the entries of a node as items
abbrev pub items_of : Node → List Item
items_of (Leaf es) = map object_item es
items_of (Inner level es) = map (subtree_item level) es

-- an entry of a node as an item; past the entries it is the object 0 with no point
abbrev pub item_at : Node → ℕ → Item
item_at node index = slice_index_or (items_of node) index (Object 0 [])

-- the node has an entry at this place, and it is the item
pub record IsItemOf (node : Node) (index : ℕ) (item : Item) : Type 0 where
  pub within : index < entry_count node
  pub is : item_at node index ≡ item

-- the item that is held
abbrev pub held_item : Held → Item
held_item (held.Root page rank) = Subtree page rank None 0
held_item (held.Entry node index) = item_at node index

-- what is held of a node is one of its entries
abbrev pub IsHeld : Held → Type 0
IsHeld (held.Root page rank) = Unit {0}
IsHeld (held.Entry node index) = index < entry_count node

-- the item that is seen
abbrev pub seen_item : Seen → Item
seen_item (seen.Root page rank) = Subtree page rank None 0
seen_item (seen.Object e) = object_item (leaf_of e)
seen_item (seen.Subtree level e) = subtree_item level (inner_of e)
