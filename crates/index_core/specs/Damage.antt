-- Which pages of a tree are damaged.
use Rattle.std.specs.Prelude.{◌≡◌, ◌⊎◌, ℕ, zero, suc, ◌+◌, ◌≤◌, List, [], ◌∷◌, length, IsTrue, Some, Err}
use Rattle.metric_laws.specs.Lists.{IsIn}
use Rattle.disk_model.specs.Disk.{DiskState}
use Rattle.tree_shape.specs.declared.live.Live.{Live}
use Rattle.tree_shape.specs.declared.entry.InnerEntry.{InnerEntry}
use Rattle.tree_shape.specs.declared.entry.Node.{Node}
use Rattle.tree_shape.specs.declared.entry.Node.TheVariants.{Leaf, Inner}
use Rattle.tree_shape.specs.Fill.{most_for}
use Rattle.tree_shape.specs.Tree.{Nodes, inner_entries}
use Rattle.page_store.specs.declared.pages.PageFault.{PageFault}
use Rattle.page_store.specs.declared.pages.PageFault.TheVariants.{Disk, Bad, Outside, Memory, Repeats, Level}
use Rattle.page_store.specs.Reached.{IsReached}
use Rattle.page_store.specs.Reading.{IsWithin, reading, nodes_of}
use Rattle.nearest_search.specs.Walks.{WalksTo}
use Rattle.index_core.specs.declared.faults.IndexFault.{IndexFault}
use Rattle.index_core.specs.declared.faults.IndexFault.TheVariants.{Damaged}
use Rattle.index_core.specs.Files.{OpenFile}

-- A walk by child numbers reaches the page again: it has opened this page already, or as many pages as the file has.
pub record ComesAgain (nodes : Nodes) (t : Live) (page : ℕ) : Type 0 where
  pub opened : List ℕ
  pub coming : List ℕ
  pub walk : WalksTo nodes (t.root ∷ []) opened coming
  pub comes : IsIn page coming
  pub again : IsIn page opened ⊎ (t.pages ≤ length opened)

-- child numbers lead from one page to another in `steps` steps
abbrev pub LeadsTo : Nodes → ℕ → ℕ → ℕ → Type 0
LeadsTo nodes zero from page = page ≡ from
LeadsTo nodes (suc steps) from page = (e : InnerEntry) × IsIn e (inner_entries (nodes from)) × LeadsTo nodes steps e.child page

-- a node stands at a height above the leaves: a leaf at 0, and an inner node at its level
abbrev pub IsAtHeight : ℕ → Node → Type 0
IsAtHeight zero (Leaf es) = Unit {0}
IsAtHeight zero (Inner level es) = ⊥
IsAtHeight (suc h) (Leaf es) = ⊥
IsAtHeight (suc h) (Inner level es) = level ≡ suc h

-- the page's node has another level than its depth in the tree asks for
pub record HasOtherLevel (nodes : Nodes) (t : Live) (page : ℕ) : Type 0 where
  pub depth : ℕ
  pub height : ℕ
  pub whole : depth + height ≡ t.height
  pub leads : LeadsTo nodes depth t.root page
  pub node : Node
  pub holds : nodes page ≡ Some node
  pub other : IsAtHeight height node → ⊥

-- the page is a root of the greatest height, and has as many entries as a node may have: it can't be split
abbrev pub IsFullTop : ℕ → Nodes → Live → ℕ → Type 0
IsFullTop dim nodes t page = (page ≡ t.root) × (t.height ≡ 14) × (most_for dim ≤ length (inner_entries (nodes page)))

-- What a fault says of a page is true, in the tree of live slot `t` in a file with `bytes`, whose points have `dim` coordinates.
-- Child numbers lead to the page from the root. Bad: it holds no node, for the reason given. Outside: it is no page that may hold a
-- node. Repeats: a walk reaches it again. Level: its node has another level than its depth asks for, or is full at the greatest height.
abbrev pub IsDamageOf : ℕ → List ℕ → Live → PageFault → Type 0
IsDamageOf dim bytes t (Bad page fault) = IsReached (nodes_of (reading dim t.pages bytes)) t.root page × (reading dim t.pages bytes page ≡ Err (Bad page fault))
IsDamageOf dim bytes t (Outside page) = IsReached (nodes_of (reading dim t.pages bytes)) t.root page × (IsWithin t.pages page → ⊥)
IsDamageOf dim bytes t (Repeats page) = IsReached (nodes_of (reading dim t.pages bytes)) t.root page × ComesAgain (nodes_of (reading dim t.pages bytes)) t page
IsDamageOf dim bytes t (Level page) =
    IsReached (nodes_of (reading dim t.pages bytes)) t.root page
    × (HasOtherLevel (nodes_of (reading dim t.pages bytes)) t page ⊎ IsFullTop dim (nodes_of (reading dim t.pages bytes)) t page)
IsDamageOf dim bytes t Disk = ⊥
IsDamageOf dim bytes t Memory = ⊥

-- a page that a refusal blames is damaged in the live tree, where the disk tells its bytes
abbrev pub BlamesDamage : {M : Type 0} → OpenFile M → DiskState → IndexFault → Type 0
BlamesDamage file disk (Damaged fault) = IsTrue disk.is_known → IsDamageOf file.head.dim disk.bytes file.live fault
BlamesDamage file disk _ = Unit {0}
