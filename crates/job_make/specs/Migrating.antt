-- What the job `migrate` does and writes: it makes an index of the objects of a file of version 1.
use Rattle.std.specs.Prelude.{◌≡◌, ◌≢◌, ◌⊎◌, ℕ, ◌<◌, Bool, Option, Some, List, length, codes, IsTrue}
use Rattle.std.specs.Io.KnownBytes.{Appends}
use Rattle.outside_io.specs.Bytes.{AppendsPrefix}
use Rattle.outside_io.specs.Causes.{Rose}
use Rattle.outside_io.specs.Sinks.{SinkState, Tells}
use Rattle.disk_model.specs.Disk.{DiskState, IsUnchanged}
use Rattle.tree_shape.specs.declared.live.Live.{Live}
use Rattle.tree_shape.specs.Tree.{IsSoundTree, Nodes, points_by_id, tags_by_id}
use Rattle.node_page.specs.declared.head.Head.{Head}
use Rattle.node_page.specs.declared.node.Version.TheVariants.{First}
use Rattle.node_page.specs.Opening.{OpensTo, Unopened, open_fault}
use Rattle.page_store.specs.Reading.{Read, nodes_of, reading_in}
use Rattle.tree_audit.specs.declared.faults.AuditFault.{AuditFault}
use Rattle.tree_audit.specs.declared.faults.AuditFault.TheVariants as audit
use Rattle.page_store.specs.declared.pages.PageFault.TheVariants as page
use Rattle.tree_audit.specs.Audited.{audit_fault}
use Rattle.rows_text.specs.Texts.{counted}
use Rattle.job_files.specs.Lines.{not_index_text, rejected_text, unopened_name}
use Rattle.job_files.specs.Spaces.{space_of}
use Rattle.job_make.specs.Jobs.{Fills, IsFillStatus}

-- ---- files of version 1

-- what the pages of a file of version 1 hold
abbrev pub old_reading : Head → Live → List ℕ → Read
old_reading head live file = reading_in First head.dim live.pages file

-- the nodes of a file of version 1
abbrev pub old_nodes : Head → Live → List ℕ → Nodes
old_nodes head live file = nodes_of (old_reading head live file)

-- the first fault of its live tree, in the auditor's order
abbrev pub old_fault : Head → Live → List ℕ → Option AuditFault
old_fault head live file = audit_fault (space_of head) (old_reading head live file) live

-- the file opens to this head of version 1, its live tree is sound in the head's space, and `points` and `tags` are those of its
-- objects in order of id
pub record IsOldFile (head : Head) (points : List (List ℕ)) (tags : List ℕ) (file : List ℕ) : Type 0 where
  pub live : Live
  pub opens : OpensTo file head live
  pub version : head.version ≡ 1
  pub sound : IsSoundTree (space_of head) (old_nodes head live file) live
  pub points_are : points ≡ points_by_id (old_nodes head live file) live
  pub tags_are : tags ≡ tags_by_id (old_nodes head live file) live

-- the file opens to a head of version 1, and `fault` is the first fault of its live tree
pub record IsOldRejected (file : List ℕ) (fault : AuditFault) : Type 0 where
  pub head : Head
  pub live : Live
  pub opens : OpensTo file head live
  pub version : head.version ≡ 1
  pub told : old_fault head live file ≡ Some fault

-- the file does not open, or is of version 2; `name` says which
abbrev pub IsNoOldFile : List ℕ → List ℕ → Type 0
IsNoOldFile file name =
    ((why : Unopened) × (open_fault file ≡ Some why) × (name ≡ unopened_name why))
    ⊎ ((head : Head) × (live : Live) × OpensTo file head live × (head.version ≡ 2) × (name ≡ codes "version"))

-- Why the objects of a tree were not taken: the disk failed, or memory ran out. Otherwise it is the fault of the tree, where its
-- pages tell it. `before` and `now` count the faults of its pages.
abbrev pub HasOldFault : Bool → ℕ → ℕ → Option AuditFault → AuditFault → Type 0
HasOldFault is_known before now told audit.Memory = Unit {0}
HasOldFault is_known before now told (audit.Page page.Disk) = Rose before now
HasOldFault is_known before now told (audit.Page page.Memory) = ⊥
HasOldFault is_known before now told fault = IsTrue is_known → told ≡ Some fault

-- ---- the job

-- the same head with version 2
abbrev pub renewed : Head → Head
renewed head = record head { version = 2 }

-- the line that says how many objects were migrated
abbrev pub migrated_text : ℕ → List ℕ
migrated_text n = counted (codes "migrated ") n

-- The job did not get to the old file. Status 5: the new file's size could not be read; 6: the new file holds something; 8: memory
-- ran out.
pub record RefusesNew (new0 new1 : DiskState) (out0 out1 : SinkState) (status : ℕ) : Type 0 where
  pub disk : status ≡ 5 → Rose new0.faults new1.faults × Tells out0 out1 (codes "fault disk\n")
  pub not_empty : status ≡ 6 → (IsTrue new0.is_known → 0 < length new0.bytes) × Tells out0 out1 (not_index_text (codes "notempty"))
  pub memory : status ≡ 8 → Tells out0 out1 (codes "fault memory\n")
  pub statuses : (status ≡ 5) ⊎ ((status ≡ 6) ⊎ (status ≡ 8))

-- The old file was refused. Status 1: it is not sound, and its first fault was written, or at status 4 a front of that line; 5: its
-- disk failed; 6: it does not open, or is of version 2; 8: memory ran out.
pub record RefusesOld (old0 old1 : DiskState) (out0 out1 : SinkState) (status : ℕ) : Type 0 where
  pub rejected : status ≡ 1 → (fault : AuditFault) × Appends out0.written out1.written (rejected_text fault)
      × (IsTrue old0.is_known → IsOldRejected old0.bytes fault)
  pub part : status ≡ 4 → (fault : AuditFault) × AppendsPrefix out0.written out1.written (rejected_text fault)
      × (IsTrue old0.is_known → IsOldRejected old0.bytes fault)
  pub disk : status ≡ 5 → Rose old0.faults old1.faults × Tells out0 out1 (codes "fault disk\n")
  pub not_old : status ≡ 6 → (name : List ℕ) × Tells out0 out1 (not_index_text name) × (IsTrue old0.is_known → IsNoOldFile old0.bytes name)
  pub memory : status ≡ 8 → Tells out0 out1 (codes "fault memory\n")
  pub statuses : (status ≡ 1) ⊎ ((status ≡ 4) ⊎ ((status ≡ 5) ⊎ ((status ≡ 6) ⊎ (status ≡ 8))))

-- The old file is sound, and a new index with its head, but of version 2, was to be filled with its objects.
pub record Moves (new0 new1 old0 : DiskState) (out0 out1 : SinkState) (status : ℕ) : Type 0 where
  pub head : Head
  pub points : List (List ℕ)
  pub tags : List ℕ
  pub old_is : IsTrue old0.is_known → IsOldFile head points tags old0.bytes
  pub fills : Fills (renewed head) points tags (λ file text. text ≡ migrated_text (length points)) new0 new1 out0 out1 status
  pub statuses : IsFillStatus status

-- What `migrate` does. It only reads the old file. The new file stays as it was, unless it was empty and the old one is sound.
pub record Migrates (new0 new1 old0 old1 : DiskState) (out0 out1 : SinkState) (status : ℕ) : Type 0 where
  pub old_same : IsUnchanged old0 old1
  pub ends :
      (IsUnchanged new0 new1 × RefusesNew new0 new1 out0 out1 status)
      ⊎ ((IsTrue new0.is_known → length new0.bytes ≡ 0)
      × ((IsUnchanged new0 new1 × RefusesOld old0 old1 out0 out1 status) ⊎ Moves new0 new1 old0 out0 out1 status))

-- the statuses with which `migrate` may end
abbrev pub IsMigrateStatus : ℕ → Type 0
IsMigrateStatus n = (n ≡ 0) ⊎ ((n ≡ 1) ⊎ ((n ≡ 4) ⊎ ((n ≡ 5) ⊎ ((n ≡ 6) ⊎ ((n ≡ 8) ⊎ (n ≡ 9))))))

-- with an empty new file and a sound old file of version 1 nothing is refused
abbrev pub RefusesNothing : DiskState → DiskState → ℕ → Type 0
RefusesNothing new0 old0 status =
    IsTrue new0.is_known → IsTrue old0.is_known → length new0.bytes ≡ 0 → (head : Head) (points : List (List ℕ)) (tags : List ℕ) →
    IsOldFile head points tags old0.bytes →
    (status ≢ 1) × (status ≢ 6) × (status ≢ 9)
