-- Which pages a tree has.
use Rattle.std.specs.Prelude.{◌≡◌, ◌↔◌, ℕ, ◌≤◌, ◌==◌, List, map, if◌then◌else◌}
use Rattle.std.specs.List.{AllByRecursion, flat_map}
use Rattle.metric_laws.specs.Lists.{IsIn}
use Rattle.tree_shape.specs.declared.entry.InnerEntry.{InnerEntry}
use Rattle.tree_shape.specs.declared.live.Live.{Live}
use Rattle.tree_shape.specs.Tree.{Nodes, IsNodePage, inner_entries, times}

-- the page is the root, or child numbers lead to it from the root
pub data IsReached (nodes : Nodes) (root : ℕ) : ℕ → Type 0 where
  at_root : IsReached nodes root root
  by_child : (page : ℕ) (e : InnerEntry) → IsReached nodes root page → IsIn e (inner_entries (nodes page)) → IsReached nodes root e.child

-- the child numbers in the nodes on the pages `tree`
abbrev pub named_in : Nodes → List ℕ → List ℕ
named_in nodes tree = flat_map (λ page. map (λ e. e.child) (inner_entries (nodes page))) tree

-- The live tree stands on the pages `tree`. The root is one of them. Each page may hold a node and is in the list once. The child
-- numbers in their nodes name only pages of the list: the root never, and each other page once. So every reached page is one of
-- them.
pub record StandsOnPages (nodes : Nodes) (t : Live) (tree : List ℕ) : Type 0 where
  pub root : IsIn t.root tree
  pub within : AllByRecursion (IsNodePage t) tree
  pub once : (page : ℕ) → times page tree ≤ 1
  pub named : (page : ℕ) → times page (named_in nodes tree) ≡ (if page == t.root then 0 else times page tree)

-- the pages `tree` are those of the live tree: it stands on them, and each of them is reached
pub record IsWholeTree (nodes : Nodes) (t : Live) (tree : List ℕ) : Type 0 where
  pub reached : (page : ℕ) → IsIn page tree ↔ IsReached nodes t.root page
  pub within : AllByRecursion (IsNodePage t) tree
  pub once : (page : ℕ) → times page tree ≤ 1
  pub named : (page : ℕ) → times page (named_in nodes tree) ≡ (if page == t.root then 0 else times page tree)
