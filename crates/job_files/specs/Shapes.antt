-- What the job `shape` does and writes, by the status with which it ends.
use Rattle.std.specs.Prelude.{◌≡◌, ◌≢◌, ◌⊎◌, ℕ, List, [], ◌∷◌, codes, Err, IsTrue}
use Rattle.std.specs.Io.KnownBytes.{Appends}
use Rattle.outside_io.specs.Bytes.{AppendsPrefix}
use Rattle.outside_io.specs.Causes.{Rose}
use Rattle.outside_io.specs.Sinks.{SinkState, Tells}
use Rattle.disk_model.specs.Disk.{DiskState, IsUnchanged}
use Rattle.job_files.specs.Spaces.{space_of}
use Rattle.tree_shape.specs.declared.live.Live.{Live}
use Rattle.node_page.specs.declared.head.Head.{Head}
use Rattle.node_page.specs.Opening.{OpensTo}
use Rattle.page_store.specs.declared.pages.PageFault.{PageFault}
use Rattle.page_store.specs.declared.pages.PageFault.TheVariants as page
use Rattle.page_store.specs.Reading.{reading}
use Rattle.page_store.specs.Files.{IsSoundFile, nodes_in}
use Rattle.page_store.specs.Tours.{Names, NamesInside}
use Rattle.tree_outline.specs.declared.outline.ShapeLine.{ShapeLine}
use Rattle.tree_outline.specs.Shapes.{root_named, tree_lines, DrawsTo}
use Rattle.job_files.specs.Lines.{damaged_text, not_index_text, shape_text}
use Rattle.job_files.specs.Jobs.{IsNoIndex}

-- the file is sound in its head's space
abbrev pub IsSound : Head → Live → List ℕ → Type 0
IsSound head live file = IsSoundFile (space_of head) head live file

-- the lines of all nodes that child numbers lead to from the root, in pre-order; in a sound file those of its tree
pub record AreLinesOf (head : Head) (live : Live) (file : List ℕ) (lines : List ShapeLine) : Type 0 where
  pub walk : DrawsTo (nodes_in head.dim live file) (root_named live.root ∷ []) lines []
  pub tree : IsSound head live file → lines ≡ tree_lines (nodes_in head.dim live file) live

-- the file opens to a tree of height `height`, with `objects` objects and the nodes `lines`
pub record IsShapeOf (file : List ℕ) (height objects : ℕ) (lines : List ShapeLine) : Type 0 where
  pub head : Head
  pub live : Live
  pub opens : OpensTo file head live
  pub version : head.version ≡ 2
  pub height_is : height ≡ live.height
  pub objects_are : objects ≡ live.count
  pub lines_are : AreLinesOf head live file lines

-- The walk of the tree by child numbers names the page, and it holds no node or lies outside the file; or the walk names the page
-- after it has opened as many pages as the file has.
abbrev pub StopsAt : ℕ → Live → List ℕ → PageFault → Type 0
StopsAt dim live file (page.Bad p fault) = (reading dim live.pages file p ≡ Err (page.Bad p fault)) × NamesInside (nodes_in dim live file) live p
StopsAt dim live file (page.Outside p) = (reading dim live.pages file p ≡ Err (page.Outside p)) × NamesInside (nodes_in dim live file) live p
StopsAt dim live file (page.Repeats p) = Names (nodes_in dim live file) live.root live.pages p
StopsAt dim live file _ = ⊥

-- the walk stops at the fault, and the file is not sound
pub record HasDamage (head : Head) (live : Live) (file : List ℕ) (fault : PageFault) : Type 0 where
  pub stops : StopsAt head.dim live file fault
  pub unsound : ¬ IsSound head live file

-- the file opens to a tree with a page that gives no node
pub record IsDamaged (file : List ℕ) (fault : PageFault) : Type 0 where
  pub head : Head
  pub live : Live
  pub opens : OpensTo file head live
  pub version : head.version ≡ 2
  pub damage : HasDamage head live file fault

-- what stands on out when `shape` ends
pub record Shapes (disk0 disk1 : DiskState) (out0 out1 : SinkState) (status : ℕ) : Type 0 where
  pub unchanged : IsUnchanged disk0 disk1
  pub done : status ≡ 0 →
      (height : ℕ) × (objects : ℕ) × (lines : List ShapeLine) × Appends out0.written out1.written (shape_text height objects lines)
      × (IsTrue disk0.is_known → IsShapeOf disk0.bytes height objects lines)
  -- a front of the lines
  pub part : status ≡ 4 →
      (height : ℕ) × (objects : ℕ) × (lines : List ShapeLine) × AppendsPrefix out0.written out1.written (shape_text height objects lines)
      × (IsTrue disk0.is_known → IsShapeOf disk0.bytes height objects lines)
  pub disk : status ≡ 5 → Rose disk0.faults disk1.faults × Tells out0 out1 (codes "fault disk\n")
  pub not_index : status ≡ 6 → (name : List ℕ) × Tells out0 out1 (not_index_text name) × (IsTrue disk0.is_known → IsNoIndex disk0.bytes name)
  pub memory : status ≡ 8 → Tells out0 out1 (codes "fault memory\n")
  pub damaged : status ≡ 9 → (fault : PageFault) × Tells out0 out1 (damaged_text fault) × (IsTrue disk0.is_known → IsDamaged disk0.bytes fault)
  -- a sound file gives neither status 6 nor status 9
  pub sound : IsTrue disk0.is_known → (head : Head) (live : Live) → IsSound head live disk0.bytes → (status ≢ 6) × (status ≢ 9)

-- why the walk of an opened file on a disk stopped, where the disk counts `faults` faults now
abbrev pub HasStop : Head → Live → DiskState → ℕ → PageFault → Type 0
HasStop head live old faults page.Disk = Rose old.faults faults
HasStop head live old faults page.Memory = Unit {0}
HasStop head live old faults (page.Level p) = ⊥
HasStop head live old faults fault = IsTrue old.is_known → HasDamage head live old.bytes fault

abbrev pub IsShapeStatus : ℕ → Type 0
IsShapeStatus n = (n ≡ 0) ⊎ ((n ≡ 4) ⊎ ((n ≡ 5) ⊎ ((n ≡ 6) ⊎ ((n ≡ 8) ⊎ (n ≡ 9)))))
