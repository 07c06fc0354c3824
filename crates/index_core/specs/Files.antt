-- An opened index, and the disks on which it stands.
use Rattle.std.specs.Prelude.{◌≡◌, ℕ, ◌≤◌, false, IsTrue, Option, MatchOption, All}
use Rattle.disk_model.specs.Disk.{DiskState, IsUnchanged}
use Rattle.tree_shape.specs.declared.live.Live.{Live}
use Rattle.tree_shape.specs.Tree.{Nodes}
use Rattle.node_page.specs.declared.head.Head.{Head}
use Rattle.node_page.specs.Heads.{IsValidHead}
use Rattle.node_page.specs.Nodes.{IsValidNode}
use Rattle.node_page.specs.Opening.{OpensTo, IsValidLive}
use Rattle.page_store.specs.Reading.{IsWithin, nodes_of}
use Rattle.page_store.specs.Shelf.{Shelf}
use Rattle.node_page.specs.declared.node.Version.TheVariants.{Second}
use Rattle.page_store.specs.Shelves.{disk_shelf}
use Rattle.page_cache.specs.Keeping.{Pairs}
use Rattle.index_core.specs.Lending.{KeptAgrees, SameRoom}

-- an opened index: its head, its live slot, the metric that it was opened with, and its cache of nodes, if any
pub record OpenFile (M : Type 0) : Type 0 where
  pub head : Head
  pub live : Live
  pub metric : M
  pub kept : Option Pairs

-- the pages of an opened index on a disk, where `asked` reads were asked for so far
abbrev pub pages_on : {M : Type 0} → OpenFile M → DiskState → ℕ → Shelf
pages_on file disk asked = disk_shelf Second file.head.dim file.live.pages disk asked

-- their nodes
abbrev pub nodes_on : {M : Type 0} → OpenFile M → DiskState → Nodes
nodes_on file disk = nodes_of (pages_on file disk 0).read

-- The index stands on the disk: where the disk tells its bytes, they open to the head and the live slot; and what is kept
-- agrees with its pages.
pub record StandsOn {M : Type 0} (file : OpenFile M) (disk : DiskState) : Type 0 where
  pub opens : IsTrue disk.is_known → OpensTo disk.bytes file.head file.live
  pub agrees : KeptAgrees file.kept (pages_on file disk 0)

-- what is kept can be nodes of a file of `pages` pages, whatever a disk holds
abbrev pub IsValidKept : ℕ → ℕ → Option Pairs → Type 0
IsValidKept dim pages kept = MatchOption kept (Unit {0}) (λ pairs. All (λ pair. IsWithin pages pair.0 × IsValidNode dim pair.1) pairs.entries)

-- what always holds of an opened index whose points have `dimension` coordinates, wherever it stands
pub record IsValidFile {M : Type 0} (dimension : ℕ) (file : OpenFile M) : Type 0 where
  pub head : IsValidHead file.head
  pub version : file.head.version ≡ 2
  pub dimension_is : dimension ≡ file.head.dim
  pub side : file.live.side ≤ 1
  pub live : (size : ℕ) × IsValidLive file.head.limit size file.live
  pub kept : IsValidKept file.head.dim file.live.pages file.kept

-- a call only reads the disk, and changes nothing of the index but what is kept of its pages
pub record OnlyReads {M : Type 0} (old new : OpenFile M) (before after : DiskState) : Type 0 where
  pub rest : new ≡ record old { kept = new.kept }
  pub room : SameRoom old.kept new.kept
  pub same : IsUnchanged before after
  pub later : before.faults ≤ after.faults
