-- A new index, and what it holds once it is filled.
use Rattle.std.specs.Prelude.{◌≡◌, ◌≢◌, ◌⊎◌, ℕ, ◌<◌, List, [], length, codes, IsTrue}
use Rattle.metric_mix.specs.declared.mix_space.MixSpace.{MixSpace}
use Rattle.outside_io.specs.Causes.{Rose}
use Rattle.outside_io.specs.Sinks.{SinkState, Tells}
use Rattle.disk_model.specs.Disk.{DiskState}
use Rattle.tree_shape.specs.Plain.{tree_of}
use Rattle.tree_growth.specs.Bulk.{built}
use Rattle.node_page.specs.declared.head.Head.{Head}
use Rattle.page_store.specs.declared.pages.PageFault.{PageFault}
use Rattle.page_store.specs.declared.pages.PageFault.TheVariants as page
use Rattle.shadow_root.specs.declared.faults.OpenFault.TheVariants as open_fault
use Rattle.index_core.specs.declared.faults.IndexFault.{IndexFault}
use Rattle.index_core.specs.declared.faults.IndexFault.TheVariants as index
use Rattle.page_store.specs.Shelf.{IsDamage}
use Rattle.index_core.specs.Files.{nodes_on}
use Rattle.index_core.specs.Index.{OpenIndex}
use Rattle.index_core.specs.Writing.{HasObjects, HoldsObjects}
use Rattle.job_files.specs.Lines.{damaged_text, not_index_text}
use Rattle.job_make.specs.declared.filling.FillFault.{FillFault}
use Rattle.job_make.specs.declared.filling.FillFault.TheVariants as fill
use Rattle.job_files.specs.Spaces.{space_of}

-- the file is a sound index with this head, with no object or with all objects
abbrev pub HoldsNoneOrAll : Head → List (List ℕ) → List ℕ → List ℕ → Type 0
HoldsNoneOrAll head points tags file = HoldsObjects (space_of head) head [] [] file ⊎ HoldsObjects (space_of head) head points tags file

-- The index on the disk is sound and has these objects, in order of id. Where there is an object, its tree is the one that bulk
-- loading makes.
pub record IsFilled (head : Head) (points : List (List ℕ)) (tags : List ℕ) (disk : DiskState) (opened : OpenIndex MixSpace) : Type 0 where
  pub objects : HasObjects (space_of head) opened.file disk points tags
  pub tree : 0 < length points → tree_of (nodes_on opened.file disk) opened.file.live ≡ built (space_of head) points tags

-- maps the fault of a load to the fault of filling a new index
abbrev pub fault_of : IndexFault → FillFault
fault_of index.Disk = fill.Disk
fault_of index.Commit = fill.Disk
fault_of index.Stopped = fill.Disk
fault_of index.Memory = fill.Memory
fault_of (index.Damaged page) = fill.Damaged page
fault_of index.Full = fill.Changed
fault_of index.NotEmpty = fill.Changed
fault_of (index.NoRoom pages needed) = fill.Changed
fault_of index.Worn = fill.Changed

-- Why a new index is not filled: the disk failed, or memory ran out. On a disk that does not tell its bytes it may also be that they
-- are no longer those of the new index.
abbrev pub HasFillCause : DiskState → DiskState → FillFault → Type 0
HasFillCause old new fill.Disk = Rose old.faults new.faults
HasFillCause old new fill.Memory = Unit {0}
HasFillCause old new (fill.Unopened why) = (why ≡ open_fault.Disk → Rose old.faults new.faults) × (IsTrue old.is_known → why ≡ open_fault.Disk)
HasFillCause old new fill.Changed = IsTrue old.is_known → ⊥
HasFillCause old new (fill.Damaged page) = IsDamage page × (IsTrue old.is_known → ⊥)

-- the disk failed
abbrev pub IsDiskFault : FillFault → Type 0
IsDiskFault fill.Disk = Unit {0}
IsDiskFault (fill.Unopened open_fault.Disk) = Unit {0}
IsDiskFault (fill.Damaged page.Disk) = Unit {0}
IsDiskFault _ = ⊥

-- the file is not the one that was made
abbrev pub IsOtherFile : FillFault → Type 0
IsOtherFile (fill.Unopened why) = why ≢ open_fault.Disk
IsOtherFile fill.Changed = Unit {0}
IsOtherFile _ = ⊥

-- how a job ends whose new index could not be filled
pub record EndsUnfilled (fault : FillFault) (out0 out1 : SinkState) (status : ℕ) : Type 0 where
  pub disk : status ≡ 5 → IsDiskFault fault × Tells out0 out1 (codes "fault disk\n")
  pub other : status ≡ 6 → IsOtherFile fault × ((name : List ℕ) × Tells out0 out1 (not_index_text name))
  pub memory : status ≡ 8 → Tells out0 out1 (codes "fault memory\n")
  pub damaged : status ≡ 9 → (page : PageFault) × (fault ≡ fill.Damaged page) × Tells out0 out1 (damaged_text page)
  pub statuses : (status ≡ 5) ⊎ ((status ≡ 6) ⊎ ((status ≡ 8) ⊎ (status ≡ 9)))
