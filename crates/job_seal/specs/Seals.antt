-- What the job `seal` does and writes, by its status.
use Rattle.std.specs.Prelude.{◌≡◌, ◌⊎◌, ℕ, ◌≤◌, List, ◌++◌, Some, None, codes, IsTrue}
use Rattle.std.specs.Io.KnownBytes.{Appends}
use Rattle.hex.specs.Hex.{encode_lower}
use Rattle.outside_io.specs.Bytes.{AppendsPrefix}
use Rattle.outside_io.specs.Causes.{Rose}
use Rattle.outside_io.specs.Sinks.{SinkState, Tells}
use Rattle.disk_model.specs.Disk.{DiskState, IsUnchanged}
use Rattle.rows_text.specs.Texts.{line_end}
use Rattle.job_files.specs.Spaces.{space_of}
use Rattle.tree_shape.specs.declared.live.Live.{Live}
use Rattle.node_page.specs.declared.head.Head.{Head}
use Rattle.node_page.specs.Opening.{OpensTo}
use Rattle.page_store.specs.Reading.{reading}
use Rattle.page_store.specs.Files.{IsLarge}
use Rattle.tree_audit.specs.declared.faults.AuditFault.{AuditFault}
use Rattle.tree_audit.specs.Audited.{audit_fault}
use Rattle.job_files.specs.Lines.{rejected_text, not_index_text}
use Rattle.job_files.specs.Jobs.{IsAudited, IsNoIndex}
use Rattle.seal_log.specs.Digests.{root_digest}

-- the line of a sealed file: its root digest in hexadecimal digits
abbrev pub sealed_text : List ℕ → List ℕ
sealed_text root = codes "sealed " ++ (encode_lower root ++ line_end)

-- a sound file of version 2 with at most 262144 pages and the root digest `root`
pub record IsSealed (file root : List ℕ) : Type 0 where
  pub head : Head
  pub live : Live
  pub opens : OpensTo file head live
  pub version : head.version ≡ 2
  pub few : live.pages ≤ 262144
  pub sound : audit_fault (space_of head) (reading head.dim live.pages file) live ≡ None
  pub root_is : root ≡ root_digest file live.pages

-- what is on out when `seal` ends
pub record Seals (disk0 disk1 : DiskState) (out0 out1 : SinkState) (status : ℕ) : Type 0 where
  pub unchanged : IsUnchanged disk0 disk1
  pub sealed : status ≡ 0 → (root : List ℕ) × Appends out0.written out1.written (sealed_text root) × (IsTrue disk0.is_known → IsSealed disk0.bytes root)
  pub rejected : status ≡ 1 → (fault : AuditFault) × Appends out0.written out1.written (rejected_text fault)
      × (IsTrue disk0.is_known → IsAudited disk0.bytes (Some fault))
  -- a front of the line was put
  pub part : status ≡ 4 →
      ((root : List ℕ) × AppendsPrefix out0.written out1.written (sealed_text root) × (IsTrue disk0.is_known → IsSealed disk0.bytes root))
      ⊎ ((fault : AuditFault) × AppendsPrefix out0.written out1.written (rejected_text fault) × (IsTrue disk0.is_known → IsAudited disk0.bytes (Some fault)))
  pub disk : status ≡ 5 → Rose disk0.faults disk1.faults × Tells out0 out1 (codes "fault disk\n")
  pub not_index : status ≡ 6 → (name : List ℕ) × Tells out0 out1 (not_index_text name) × (IsTrue disk0.is_known → IsNoIndex disk0.bytes name)
  pub long : status ≡ 7 → Tells out0 out1 (codes "fault long\n") × (IsTrue disk0.is_known → IsLarge disk0.bytes)
  pub memory : status ≡ 8 → Tells out0 out1 (codes "fault memory\n")
  -- a file with too many pages is neither sealed nor audited
  pub large : (status ≡ 0) ⊎ ((status ≡ 1) ⊎ (status ≡ 4)) → IsTrue disk0.is_known → IsLarge disk0.bytes → ⊥

-- the statuses with which `seal` may end
abbrev pub IsSealStatus : ℕ → Type 0
IsSealStatus n = (n ≡ 0) ⊎ ((n ≡ 1) ⊎ ((n ≡ 4) ⊎ ((n ≡ 5) ⊎ ((n ≡ 6) ⊎ ((n ≡ 7) ⊎ (n ≡ 8))))))

-- ---- the steps

-- an index was not opened: the disk failed, the file is no index of version 2, or it has too many pages
pub record Refuses (disk0 disk1 : DiskState) (out0 out1 : SinkState) (status : ℕ) : Type 0 where
  pub disk : status ≡ 5 → Rose disk0.faults disk1.faults × Tells out0 out1 (codes "fault disk\n")
  pub not_index : status ≡ 6 → (name : List ℕ) × Tells out0 out1 (not_index_text name) × (IsTrue disk0.is_known → IsNoIndex disk0.bytes name)
  pub long : status ≡ 7 → Tells out0 out1 (codes "fault long\n") × (IsTrue disk0.is_known → IsLarge disk0.bytes)
  pub statuses : (status ≡ 5) ⊎ ((status ≡ 6) ⊎ (status ≡ 7))

-- the line of a file that was audited and found sound, with its root digest
pub record EndsSealed (disk0 disk1 : DiskState) (pages : ℕ) (out0 out1 : SinkState) (status : ℕ) : Type 0 where
  pub unchanged : IsUnchanged disk0 disk1
  pub sealed : status ≡ 0 → (root : List ℕ) × Appends out0.written out1.written (sealed_text root) × (IsTrue disk0.is_known → root ≡ root_digest disk0.bytes pages)
  pub part : status ≡ 4 → (root : List ℕ) × AppendsPrefix out0.written out1.written (sealed_text root)
      × (IsTrue disk0.is_known → root ≡ root_digest disk0.bytes pages)
  pub disk : status ≡ 5 → Rose disk0.faults disk1.faults × Tells out0 out1 (codes "fault disk\n")
  pub memory : status ≡ 8 → Tells out0 out1 (codes "fault memory\n")
  pub statuses : (status ≡ 0) ⊎ ((status ≡ 4) ⊎ ((status ≡ 5) ⊎ (status ≡ 8)))
