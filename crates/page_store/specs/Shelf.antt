-- What pages mean to their callers.
use Rattle.std.specs.Prelude.{◌≡◌, ℕ, ◌≤◌, Bool, false, IsTrue, Ok, Err}
use Rattle.outside_io.specs.Causes.{Rose}
use Rattle.tree_shape.specs.declared.entry.Node.{Node}
use Rattle.node_page.specs.Nodes.{IsValidNode}
use Rattle.page_store.specs.declared.pages.PageFault.{PageFault}
use Rattle.page_store.specs.declared.pages.PageFault.TheVariants.{Disk, Bad, Outside, Memory, Repeats, Level}
use Rattle.page_store.specs.Reading.{Read, IsWithin, is_within}

-- What pages mean: how many coordinates their points have; how many pages there are; what each page holds, where `is_known` is true;
-- how many requests for a node there were; how often the disk was read; and how often it failed.
pub record Shelf : Type 0 where
  pub dim : ℕ
  pub pages : ℕ
  pub is_known : Bool
  pub read : Read
  pub asked : ℕ
  pub reads : ℕ
  pub faults : ℕ

-- the pages hold what they held
pub record HoldsSame (old new : Shelf) : Type 0 where
  pub dim : new.dim ≡ old.dim
  pub pages : new.pages ≡ old.pages
  pub is_known : new.is_known ≡ old.is_known
  pub read : new.read ≡ old.read
  pub faults : old.faults ≤ new.faults

-- a node that a page gave is the page's node, and can be written
pub record IsNodeOf (shelf : Shelf) (page : ℕ) (node : Node) : Type 0 where
  pub within : IsWithin shelf.pages page
  pub valid : IsValidNode shelf.dim node
  pub told : IsTrue shelf.is_known → shelf.read page ≡ Ok node

-- why a page gave no node: its disk failed, its bytes are no node, it is outside the pages, or memory ran out
abbrev pub HasPageCause : Shelf → Shelf → ℕ → PageFault → Type 0
HasPageCause old new page Disk = Rose old.faults new.faults
HasPageCause old new page (Bad p fault) = (p ≡ page) × IsWithin old.pages page
    × (IsTrue old.is_known → old.read page ≡ Err (Bad page fault))
HasPageCause old new page (Outside p) = (p ≡ page) × (is_within old.pages page ≡ false) × (IsTrue old.is_known → old.read page ≡ Err (Outside page))
HasPageCause old new page Memory = Unit {0}
HasPageCause old new page (Repeats p) = ⊥
HasPageCause old new page (Level p) = ⊥

-- what may come at any time: the disk failed, or memory ran out
abbrev pub IsPassing : PageFault → Type 0
IsPassing Disk = Unit {0}
IsPassing Memory = Unit {0}
IsPassing _ = ⊥

-- what a walk by child numbers finds in a damaged file: a page that holds no node, a page outside the file, or a page that is needed
-- after as many pages as there are were opened
abbrev pub IsDamage : PageFault → Type 0
IsDamage (Bad page fault) = Unit {0}
IsDamage (Outside page) = Unit {0}
IsDamage (Repeats page) = Unit {0}
IsDamage _ = ⊥
