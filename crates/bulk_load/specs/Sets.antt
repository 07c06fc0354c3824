-- The sets from which nodes are built.
use Rattle.std.specs.Prelude.{◌≡◌, ℕ, ◌+◌, ◌^◌, ◌<◌, ◌≤◌, Bool, true, false, List, length, None, IsTrue}
use Rattle.std.specs.List.{AllByRecursion}
use Rattle.metric_laws.specs.Space.{Space}
use Rattle.tree_growth.specs.declared.rules.Group.{Group}
use Rattle.tree_shape.specs.Fill.{most_for, least_for}
use Rattle.tree_shape.specs.declared.entry.Node.{Node}
use Rattle.tree_growth.specs.Bulk.{Load, height_of, places}
use Rattle.page_store.specs.Numbers.{Ascends, number_at}
use Rattle.bulk_load.specs.declared.subtree.Loading.{Loading}
use Rattle.bulk_load.specs.Groupable.{load_of}
use Rattle.bulk_load.specs.Postorder.{nodes_at}

-- what a call loads, where its metric measures the space
abbrev pub load_by : {M : Type 0} → Space → Loading M → Load
load_by s l = load_of s l.rows.now.points l.tags.now l.fill

-- the page of the new node at each place
abbrev pub page_by : {M : Type 0} → Loading M → ℕ → ℕ
page_by l i = number_at l.numbering.numbers.now l.numbering.first i

-- the height of the tree of all rows
abbrev pub top_height : Load → ℕ
top_height l = height_of l.most (length l.points)

-- the nodes of the tree of all rows
abbrev pub top_nodes : Load → (ℕ → ℕ) → List Node
top_nodes l number = nodes_at l number (top_height l) None (places l) 0

-- points of the space, with a tag for each, and the fill that the space asks for
pub record IsValidLoad (l : Load) : Type 0 where
  pub is_point : AllByRecursion (λ p. IsTrue (l.space.is_point p)) l.points
  pub tagged : length l.tags ≡ length l.points
  pub most : l.most ≡ most_for l.space.dimension
  pub least : l.least ≡ least_for l.space.dimension

-- a set of rows, in order, of a size that a node of level `h` can hold
pub record IsSetFor (l : Load) (is_root : Bool) (h : ℕ) (set : List ℕ) : Type 0 where
  pub places : AllByRecursion (λ k. k < length l.points) set
  pub ascends : Ascends 0 set
  pub some : 0 < length set
  pub above : is_root ≡ true → 1 ≤ h → l.most ^ h < length set
  pub enough : is_root ≡ false → l.least ^ (h + 1) ≤ length set
  pub at_most : length set ≤ l.most ^ (h + 1)

-- a group whose subtree's root is of level `h`
abbrev pub IsGroupFor : Load → ℕ → Group → Type 0
IsGroupFor l h g = (g.seed < length l.points) × IsSetFor l false h g.members
