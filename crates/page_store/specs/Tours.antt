-- The walk of a tree by child numbers, which opens each node before the nodes that it names.
use Rattle.std.specs.Prelude.{◌≡◌, ℕ, ◌<◌, ◌≤◌, false, IsTrue, List, [], ◌∷◌, ◌++◌, map, length, Some, Err}
use Rattle.metric_laws.specs.Counts.{count_up}
use Rattle.outside_io.specs.Causes.{Rose}
use Rattle.tree_shape.specs.declared.live.Live.{Live}
use Rattle.tree_shape.specs.declared.entry.Node.{Node}
use Rattle.tree_shape.specs.declared.entry.Node.TheVariants.{Leaf, Inner}
use Rattle.tree_shape.specs.Tree.{Nodes}
use Rattle.page_store.specs.declared.pages.PageFault.{PageFault}
use Rattle.page_store.specs.declared.pages.PageFault.TheVariants.{Disk, Bad, Outside, Memory, Repeats, Level}
use Rattle.page_store.specs.Reading.{IsWithin, is_within, nodes_of}
use Rattle.page_store.specs.Shelf.{Shelf}

-- the pages that a node names
abbrev pub children : Node → List ℕ
children (Leaf es) = []
children (Inner level es) = map (λ e. e.child) es

-- a walk that has `pages` to open has opened the next list, each page before those that it names, and still has `left` to open
abbrev pub Tours : Nodes → List ℕ → List ℕ → List ℕ → Type 0
Tours nodes pages [] left = left ≡ pages
Tours nodes [] (o ∷ os) left = ⊥
Tours nodes (p ∷ ps) (o ∷ os) left = (node : Node) × (nodes p ≡ Some node) × (o ≡ p) × Tours nodes (children node ++ ps) os left

-- the walk from a page is whole, and opens at most `most` pages
pub record IsWhole (nodes : Nodes) (page most : ℕ) : Type 0 where
  pub pages : List ℕ
  pub walk : Tours nodes (page ∷ []) pages []
  pub few : length pages ≤ most

-- the walk of the live tree is whole and opens at most as many pages as there are
abbrev pub IsToured : Nodes → Live → Type 0
IsToured nodes live = IsWhole nodes live.root live.pages

-- the walk from `root` opens `opened` pages and then names `page`
pub record Names (nodes : Nodes) (root opened page : ℕ) : Type 0 where
  pub before : List ℕ
  pub rest : List ℕ
  pub walk : Tours nodes (root ∷ []) before (page ∷ rest)
  pub count : length before ≡ opened

-- the same, after fewer opened pages than there are
abbrev pub NamesInside : Nodes → Live → ℕ → Type 0
NamesInside nodes live page = (opened : ℕ) × (opened < live.pages) × Names nodes live.root opened page

-- why the walk of the live tree stops: the disk failed; memory ran out; it names a page that holds no node, or a page outside the
-- file; or it has opened as many pages as there are, and names one more
abbrev pub HasTourCause : Live → Shelf → Shelf → PageFault → Type 0
HasTourCause live old new Disk = Rose old.faults new.faults
HasTourCause live old new Memory = Unit {0}
HasTourCause live old new (Bad page fault) = IsWithin old.pages page
    × (IsTrue old.is_known → (old.read page ≡ Err (Bad page fault)) × NamesInside (nodes_of old.read) live page)
HasTourCause live old new (Outside page) = (is_within old.pages page ≡ false)
    × (IsTrue old.is_known → (old.read page ≡ Err (Outside page)) × NamesInside (nodes_of old.read) live page)
HasTourCause live old new (Repeats page) =
    (new.asked ≡ count_up old.asked live.pages) × (IsTrue old.is_known → Names (nodes_of old.read) live.root live.pages page)
HasTourCause live old new (Level page) = ⊥
