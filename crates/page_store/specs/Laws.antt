-- Laws of trees on pages.
use Rattle.std.specs.Prelude.{◌≡◌, ℕ, ◌<◌, ◌≤◌, List, ◌++◌, Some}
use Rattle.std.specs.List.{AllByRecursion}
use Rattle.metric_laws.specs.Lists.{IsIn}
use Rattle.metric_laws.specs.Space.{Space}
use Rattle.tree_shape.specs.declared.entry.Node.{Node}
use Rattle.tree_shape.specs.declared.live.Live.{Live}
use Rattle.tree_shape.specs.Tree.{Nodes, IsNodePage, IsSoundTree, times}
use Rattle.node_page.specs.declared.head.Head.{Head}
use Rattle.page_store.specs.declared.staging.Placed.{Placed}
use Rattle.page_store.specs.Numbers.{AreNumbers}
use Rattle.page_store.specs.Placing.{IsPlacement, live_pages}
use Rattle.page_store.specs.Reached.{IsReached, IsWholeTree, StandsOnPages}
use Rattle.page_store.specs.Staging.{pages_of}
use Rattle.page_store.specs.Tours.{IsWhole, IsToured, Names}
use Rattle.page_store.specs.Succession.{ShareNone, TakesPlace, StandsByItself, IsWritten, without}

-- a sound tree is whole, on its pages in pre-order
abbrev pub SoundTreesAreWhole : Type 0
SoundTreesAreWhole = (s : Space) (nodes : Nodes) (t : Live) → IsSoundTree s nodes t → IsWholeTree nodes t (live_pages nodes t)

-- a whole tree stands on its pages; where a tree stands on pages, each page that is reached is one of those pages
pub record TreesStandOnPages : Type 0 where
  pub whole : (nodes : Nodes) (t : Live) (tree : List ℕ) → IsWholeTree nodes t tree → StandsOnPages nodes t tree
  pub reached : (nodes : Nodes) (t : Live) (tree : List ℕ) (page : ℕ) → StandsOnPages nodes t tree → IsReached nodes t.root page → IsIn page tree

-- the pages `pages` may hold nodes of the next tree, each stands in the list once, and the live tree stands on none of them
pub record AreNew (next : Live) (tree pages : List ℕ) : Type 0 where
  pub within : AllByRecursion (IsNodePage next) pages
  pub once : (page : ℕ) → times page pages ≤ 1
  pub outside : ShareNone pages tree

-- a placement has new pages, where the live tree stands on none of the numbers that were given
abbrev pub PlacementsAreNew : Type 0
PlacementsAreNew =
    (head : Head) (t : Live) (tree numbers : List ℕ) (added : ℕ) (placed : Placed) → AllByRecursion (IsNodePage t) tree → AreNumbers t.pages numbers →
    ShareNone numbers tree → IsPlacement head t numbers added placed → AreNew placed.next tree (pages_of placed.staged)

-- Where a tree stands on pages, and new nodes that replace the left nodes are written to new pages, the next tree stands on the old
-- pages except the left ones, and on the new pages.
abbrev pub TreesGoOn : Type 0
TreesGoOn =
    (old new : Nodes) (t : Live) (tree : List ℕ) (placed : Placed) → StandsOnPages old t tree → t.pages ≤ placed.next.pages → TakesPlace old t placed →
    AreNew placed.next tree (pages_of placed.staged) → IsWritten old tree placed.staged new →
    StandsOnPages new placed.next (without placed.left tree ++ pages_of placed.staged)

-- where the new nodes stand by themselves, the next tree stands on the new pages alone
abbrev pub NewTreesStand : Type 0
NewTreesStand =
    (old new : Nodes) (tree : List ℕ) (placed : Placed) → StandsByItself placed →
    AreNew placed.next tree (pages_of placed.staged) → IsWritten old tree placed.staged new →
    StandsOnPages new placed.next (pages_of placed.staged)

-- On any file, the page that the walk by child numbers names after `opened` opened pages is the only one. Where the walk is whole,
-- that page holds a node, and fewer pages were opened than in the whole walk. So a walk that meets a page without a node, or names
-- more pages than there are, has no other result, and its fault names that page.
abbrev pub TourHasOneCourse : Type 0
TourHasOneCourse =
    (nodes : Nodes) (root opened page : ℕ) → Names nodes root opened page →
    ((other : ℕ) → Names nodes root opened other → page ≡ other)
    × ((most : ℕ) → IsWhole nodes root most → (opened < most) × ((node : Node) × (nodes page ≡ Some node)))

-- the walk by child numbers of a sound tree is whole, and opens at most as many pages as there are
abbrev pub SoundTreesAreToured : Type 0
SoundTreesAreToured = (s : Space) (nodes : Nodes) (t : Live) → IsSoundTree s nodes t → IsToured nodes t
