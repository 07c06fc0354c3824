-- Nodes as pages: which page spells which node, and the first fault of a page that spells none.
use Rattle.std.specs.Prelude.{◌≡◌, ℕ, zero, suc, ◌+◌, ◌-◌, ◌*◌, ◌≤◌, ◌==◌, ◌&&◌, ◌||◌, not, nat_lt, nat_le, Bool, true, false, List, length, slice_index, Option, Some, None, if◌then◌else◌}
use Rattle.std.specs.List.{AllByRecursion}
use Rattle.metric_laws.specs.Space.{bound}
use Rattle.tree_shape.specs.Fill.{most_for}
unfoldable pub use Rattle.tree_shape.specs.Flat.{firsts}
use Rattle.tree_shape.specs.declared.entry.LeafEntry.{LeafEntry}
use Rattle.tree_shape.specs.declared.entry.InnerEntry.{InnerEntry}
use Rattle.tree_shape.specs.declared.entry.Node.{Node}
use Rattle.tree_shape.specs.declared.entry.Node.TheVariants.{Leaf, Inner}
use Rattle.node_page.specs.Bytes.{number_at, AreZero, are_zero}
use Rattle.node_page.specs.declared.node.Version.{Version}
use Rattle.node_page.specs.declared.node.Version.TheVariants.{First, Second}
use Rattle.node_page.specs.declared.node.NodeFault.{NodeFault}
use Rattle.node_page.specs.declared.node.NodeFault.TheVariants.{Kind, Count, Distance, Tail}
use Rattle.node_page.specs.declared.node.Unread.{Unread}
use Rattle.node_page.specs.declared.node.Unread.TheVariants.{NoNode, Memory}

-- whether the test f holds at 0, 1 and so on, n in all
unfoldable pub all_of : (ℕ → Bool) → ℕ → Bool
all_of f zero = true
all_of f (suc n) = all_of f n && f n

-- each of `numbers` is the number of four bytes at its place behind the front of the page
abbrev pub AreNumbers : List ℕ → List ℕ → Type 0
AreNumbers page numbers = numbers ≡ firsts (λ j. number_at (16 + 4 * j) 4 page) (length numbers)

-- the coordinates from a place on
abbrev pub point_at : ℕ → List ℕ → ℕ → List ℕ
point_at dim page at = firsts (λ j. number_at (at + 4 * j) 4 page) dim

-- the bytes of an entry before its parent distance: a leaf entry of the first version has no tag between
abbrev pub parent_place : Version → Bool → ℕ
parent_place First true = 4
parent_place First false = 12
parent_place Second leaf = 12

-- the tag of the leaf entry from a place on: of the first version it is the id
abbrev pub tag_at : Version → List ℕ → ℕ → ℕ
tag_at First page at = number_at at 4 page
tag_at Second page at = number_at (at + 4) 8 page

-- the leaf entry from a place on
unfoldable pub leaf_in : Version → ℕ → List ℕ → ℕ → LeafEntry
leaf_in version dim page at = record {
  id = number_at at 4 page;
  tag = tag_at version page at;
  parent = number_at (at + parent_place version true) 8 page;
  point = point_at dim page (at + (parent_place version true + 8));
}

-- the leaf entry of the second version from a place on
abbrev pub leaf_at : ℕ → List ℕ → ℕ → LeafEntry
leaf_at dim page at = leaf_in Second dim page at

-- the inner entry from a place on
unfoldable pub inner_at : ℕ → List ℕ → ℕ → InnerEntry
inner_at dim page at = record {
  child = number_at at 4 page;
  radius = number_at (at + 4) 8 page;
  parent = number_at (at + 12) 8 page;
  point = point_at dim page (at + 20);
}

-- the place of entry i over points of `dim` coordinates
abbrev pub place_in : Version → Bool → ℕ → ℕ → ℕ
place_in version leaf dim i = 16 + (parent_place version leaf + 8 + 4 * dim) * i

-- the place of an entry of the second version
abbrev pub place_of : ℕ → ℕ → ℕ
place_of dim i = 16 + (20 + 4 * dim) * i

-- the number of entries
unfoldable pub count_of : List ℕ → ℕ
count_of page = number_at 2 2 page

-- the page has `count` entries, at most as many as it may have, and 0 where there is no field
pub record HasCount (version : Version) (leaf : Bool) (dim : ℕ) (page : List ℕ) (count : ℕ) : Type 0 where
  pub told : count_of page ≡ count
  pub at_most : count ≤ most_for dim
  pub first : AreZero 1 2 page
  pub between : AreZero 4 16 page
  pub behind : AreZero (place_in version leaf dim count) 4096 page

-- the page has this node's level and entries in their places, and 0 elsewhere; no distance is above the bound, and an
-- inner node has some entry
abbrev pub SpellsIn : Version → ℕ → List ℕ → Node → Type 0
SpellsIn version dim page (Leaf es) =
    (slice_index page 0 ≡ 0) × HasCount version true dim page (length es)
    × (es ≡ firsts (λ i. leaf_in version dim page (place_in version true dim i)) (length es)) × AllByRecursion (λ e. e.parent ≤ bound) es
SpellsIn version dim page (Inner level es) =
    (slice_index page 0 ≡ level) × (1 ≤ level) × (level ≤ 14) × HasCount version false dim page (length es) × (1 ≤ length es)
    × (es ≡ firsts (λ i. inner_at dim page (place_of dim i)) (length es)) × AllByRecursion (λ e. (e.radius ≤ bound) × (e.parent ≤ bound)) es

-- the page spells the node by the second version
abbrev pub SpellsNode : ℕ → List ℕ → Node → Type 0
SpellsNode dim page node = SpellsIn Second dim page node

-- whether the distances of the entry from a place on are at most the bound; a leaf's has no radius
unfoldable pub near_at : Version → Bool → List ℕ → ℕ → Bool
near_at version leaf page at = nat_le (number_at (at + parent_place version leaf) 8 page) bound && (leaf || nat_le (number_at (at + 4) 8 page) bound)

-- whether a number of entries is one that a node may have
unfoldable pub is_count : ℕ → Bool → ℕ → Bool
is_count dim leaf count = nat_le count (most_for dim) && (leaf || nat_lt 0 count)

-- whether all distances of the first `count` entries are at most the bound
unfoldable pub are_near : Version → ℕ → Bool → List ℕ → ℕ → Bool
are_near version dim leaf page count = all_of (λ i. near_at version leaf page (place_in version leaf dim i)) count

-- whether each byte that no field takes is 0
unfoldable pub is_rest_zero : Version → ℕ → Bool → List ℕ → ℕ → Bool
is_rest_zero version dim leaf page count =
    are_zero 1 1 page && are_zero 4 12 page && are_zero (place_in version leaf dim count) (4096 - place_in version leaf dim count) page

-- the first fault of a page
unfoldable pub fault_in : Version → ℕ → List ℕ → Option NodeFault
fault_in version dim page =
    if not (nat_le (slice_index page 0) 14) then Some Kind
    else if not (is_count dim (slice_index page 0 == 0) (count_of page)) then Some Count
    else if not (are_near version dim (slice_index page 0 == 0) page (count_of page)) then Some Distance
    else if not (is_rest_zero version dim (slice_index page 0 == 0) page (count_of page)) then Some Tail
    else None

-- why no node was read from a page: it has this first fault, or it has none and memory ran out
abbrev pub IsUnread : Version → ℕ → List ℕ → Unread → Type 0
IsUnread version dim page (NoNode fault) = fault_in version dim page ≡ Some fault
IsUnread version dim page Memory = fault_in version dim page ≡ None

-- the node of a page that has no fault
unfoldable pub node_in : Version → ℕ → List ℕ → Node
node_in version dim page =
    if slice_index page 0 == 0 then Leaf (firsts (λ i. leaf_in version dim page (place_in version true dim i)) (count_of page))
    else Inner (slice_index page 0) (firsts (λ i. inner_at dim page (place_of dim i)) (count_of page))

-- a node that a page can hold
abbrev pub IsValidNode : ℕ → Node → Type 0
IsValidNode dim (Leaf es) = (length es ≤ most_for dim) × AllByRecursion (λ e. (length e.point ≡ dim) × (e.parent ≤ bound)) es
IsValidNode dim (Inner level es) =
    (1 ≤ level) × (level ≤ 14) × (1 ≤ length es) × (length es ≤ most_for dim)
    × AllByRecursion (λ e. (length e.point ≡ dim) × (e.radius ≤ bound) × (e.parent ≤ bound)) es
