-- What the jobs on files do and write, by the status with which they end.
use Rattle.std.specs.Prelude.{◌≡◌, ◌⊎◌, ℕ, ◌<◌, Option, Some, None, List, length, codes, IsTrue}
use Rattle.std.specs.Io.KnownBytes.{Appends}
use Rattle.outside_io.specs.Bytes.{AppendsPrefix}
use Rattle.outside_io.specs.Causes.{Rose}
use Rattle.outside_io.specs.Sinks.{SinkState, Tells}
use Rattle.disk_model.specs.Disk.{DiskState, LeavesOnly, IsUnchanged}
use Rattle.job_files.specs.Spaces.{space_of}
use Rattle.tree_shape.specs.declared.live.Live.{Live}
use Rattle.tree_shape.specs.Tree.{pages_at}
use Rattle.node_page.specs.declared.head.Head.{Head}
use Rattle.node_page.specs.Opening.{OpensTo, Unopened, open_fault}
use Rattle.page_store.specs.Reading.{reading, nodes_of}
use Rattle.shadow_root.specs.Making.{IsMade}
use Rattle.tree_audit.specs.declared.faults.AuditFault.{AuditFault}
use Rattle.tree_audit.specs.declared.faults.AuditFault.TheVariants as audit
use Rattle.page_store.specs.declared.pages.PageFault.TheVariants as page
use Rattle.tree_audit.specs.Audited.{audit_fault}
use Rattle.job_files.specs.Lines.{unopened_name, sound_text, rejected_text, not_index_text}

-- ---- create

-- what stands on the disk and on out when `create` ends
pub record Creates (head : Head) (disk0 disk1 : DiskState) (out0 out1 : SinkState) (status : ℕ) : Type 0 where
  -- the file is a sound empty index, in every image of a crash
  pub made : (status ≡ 0) ⊎ (status ≡ 4) → (IsTrue disk0.is_known → (length disk0.bytes ≡ 0) × IsMade head disk1.bytes) × LeavesOnly disk1 disk1.bytes
  pub done : status ≡ 0 → Appends out0.written out1.written (codes "created\n")
  pub part : status ≡ 4 → AppendsPrefix out0.written out1.written (codes "created\n")
  -- the disk failed
  pub disk : status ≡ 5 → Rose disk0.faults disk1.faults × Tells out0 out1 (codes "fault disk\n")
  -- the file held something, and holds it still
  pub not_empty : status ≡ 6 → (IsTrue disk0.is_known → 0 < length disk0.bytes) × IsUnchanged disk0 disk1 × Tells out0 out1 (codes "fault notindex notempty\n")
  pub memory : status ≡ 8 → IsUnchanged disk0 disk1 × Tells out0 out1 (codes "fault memory\n")

-- ---- opening

-- the file opens, and is of the second version
abbrev pub IsIndex : List ℕ → Type 0
IsIndex file = (head : Head) × (live : Live) × OpensTo file head live × (head.version ≡ 2)

-- the file does not open, or is of version 1, as the word says
abbrev pub IsNoIndex : List ℕ → List ℕ → Type 0
IsNoIndex file name =
    ((why : Unopened) × (open_fault file ≡ Some why) × (name ≡ unopened_name why))
    ⊎ ((head : Head) × (live : Live) × OpensTo file head live × (head.version ≡ 1) × (name ≡ codes "version"))

-- an index was not opened: the disk failed, or the file is no index of version 2
pub record Refuses (disk0 disk1 : DiskState) (out0 out1 : SinkState) (status : ℕ) : Type 0 where
  pub disk : status ≡ 5 → Rose disk0.faults disk1.faults × Tells out0 out1 (codes "fault disk\n")
  pub not_index : status ≡ 6 → (name : List ℕ) × Tells out0 out1 (not_index_text name) × (IsTrue disk0.is_known → IsNoIndex disk0.bytes name)
  pub statuses : (status ≡ 5) ⊎ (status ≡ 6)

-- ---- audit

-- a file of version 2 opens, and `fault` is what the audit of its live tree in its head's space tells
pub record IsAudited (file : List ℕ) (fault : Option AuditFault) : Type 0 where
  pub head : Head
  pub live : Live
  pub opens : OpensTo file head live
  pub version : head.version ≡ 2
  pub told : audit_fault (space_of head) (reading head.dim live.pages file) live ≡ fault

-- a sound file with `objects` objects and `nodes` nodes
pub record IsSoundWith (file : List ℕ) (objects nodes : ℕ) : Type 0 where
  pub audited : IsAudited file None
  pub objects_are : objects ≡ audited.live.count
  pub nodes_are : nodes ≡ length (pages_at (nodes_of (reading audited.head.dim audited.live.pages file)) audited.live.height audited.live.root)

-- what stands on out when `audit` ends
pub record Audits (disk0 disk1 : DiskState) (out0 out1 : SinkState) (status : ℕ) : Type 0 where
  pub unchanged : IsUnchanged disk0 disk1
  pub sound : status ≡ 0 → (objects : ℕ) × (nodes : ℕ) × Appends out0.written out1.written (sound_text objects nodes)
      × (IsTrue disk0.is_known → IsSoundWith disk0.bytes objects nodes)
  pub rejected : status ≡ 1 → (fault : AuditFault) × Appends out0.written out1.written (rejected_text fault)
      × (IsTrue disk0.is_known → IsAudited disk0.bytes (Some fault))
  -- a front of the lines
  pub part : status ≡ 4 →
      ((objects : ℕ) × (nodes : ℕ) × AppendsPrefix out0.written out1.written (sound_text objects nodes)
      × (IsTrue disk0.is_known → IsSoundWith disk0.bytes objects nodes))
      ⊎ ((fault : AuditFault) × AppendsPrefix out0.written out1.written (rejected_text fault) × (IsTrue disk0.is_known → IsAudited disk0.bytes (Some fault)))
  pub disk : status ≡ 5 → Rose disk0.faults disk1.faults × Tells out0 out1 (codes "fault disk\n")
  pub not_index : status ≡ 6 → (name : List ℕ) × Tells out0 out1 (not_index_text name) × (IsTrue disk0.is_known → IsNoIndex disk0.bytes name)
  pub memory : status ≡ 8 → Tells out0 out1 (codes "fault memory\n")

-- why an audit of a file on a disk failed, where the disk counts `faults` faults now
abbrev pub HasFault : DiskState → ℕ → Option AuditFault → AuditFault → Type 0
HasFault old faults told audit.Memory = Unit {0}
HasFault old faults told (audit.Page page.Disk) = Rose old.faults faults
HasFault old faults told (audit.Page page.Memory) = ⊥
HasFault old faults told (audit.Page (page.Repeats p)) = ⊥
HasFault old faults told (audit.Page (page.Level p)) = ⊥
HasFault old faults told fault = IsTrue old.is_known → told ≡ Some fault

-- a failure of the disk or out of memory, which no bytes tell
abbrev pub IsPassing : AuditFault → Type 0
IsPassing audit.Memory = Unit {0}
IsPassing (audit.Page page.Disk) = Unit {0}
IsPassing _ = ⊥

abbrev pub IsAuditStatus : ℕ → Type 0
IsAuditStatus n = (n ≡ 0) ⊎ ((n ≡ 1) ⊎ ((n ≡ 4) ⊎ ((n ≡ 5) ⊎ ((n ≡ 6) ⊎ (n ≡ 8)))))
