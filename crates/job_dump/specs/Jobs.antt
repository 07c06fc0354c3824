-- What the job `dump` does and writes, by the status with which it ends.
use Rattle.std.specs.Prelude.{◌≡◌, ◌≢◌, ◌⊎◌, ◌++◌, ℕ, false, List, Option, codes, IsTrue}
use Rattle.std.specs.Io.KnownBytes.{Appends}
use Rattle.outside_io.specs.Bytes.{AppendsPrefix}
use Rattle.outside_io.specs.Causes.{Rose}
use Rattle.outside_io.specs.Sinks.{SinkState, Tells}
use Rattle.disk_model.specs.Disk.{DiskState, IsUnchanged}
use Rattle.tree_shape.specs.declared.live.Live.{Live}
use Rattle.node_page.specs.declared.head.Head.{Head}
use Rattle.node_page.specs.Opening.{OpensTo}
use Rattle.page_store.specs.Files.{nodes_in}
use Rattle.page_store.specs.Shelf.{Shelf}
use Rattle.node_page.specs.declared.node.Version.TheVariants.{Second}
use Rattle.page_store.specs.Shelves.{disk_shelf}
use Rattle.fault_lines.specs.Lines.{numbered}
use Rattle.rows_text.specs.Texts.{line_end}
use Rattle.job_files.specs.Jobs.{IsNoIndex}
use Rattle.job_files.specs.Lines.{damaged_text, not_index_text}
use Rattle.job_files.specs.Shapes.{HasDamage, IsSound}
use Rattle.job_dump.specs.declared.fault.DumpFault.{DumpFault}
use Rattle.job_dump.specs.declared.fault.DumpFault.TheVariants as dump
use Rattle.job_dump.specs.Rows.{HasRows, IsOutOfPlace}
use Rattle.job_dump.specs.Scripts.{script_text}

-- the pages of an opened file of version 2
abbrev pub opened_shelf : Head → Live → DiskState → Shelf
opened_shelf head live disk = disk_shelf Second head.dim live.pages disk 0

-- the file opens to a tree with these tags and points
pub record HoldsRows (file : List ℕ) (rows : List (ℕ × List ℕ)) : Type 0 where
  pub head : Head
  pub live : Live
  pub opens : OpensTo file head live
  pub version : head.version ≡ 2
  pub rows_are : HasRows (nodes_in head.dim live file) live rows

-- the line of a file whose objects can't be told
abbrev pub fault_text : DumpFault → List ℕ
fault_text (dump.Page fault) = damaged_text fault
fault_text (dump.Id id) = numbered (codes "fault damaged id ") id ++ line_end

-- why the objects of an opened file can't be told; it is not sound then
abbrev pub HasFault : Head → Live → List ℕ → DumpFault → Type 0
HasFault head live file (dump.Page fault) = HasDamage head live file fault
HasFault head live file (dump.Id id) = IsOutOfPlace (nodes_in head.dim live file) live id × (¬ IsSound head live file)

-- the file opens to a tree whose objects can't be told
pub record IsDamaged (file : List ℕ) (fault : DumpFault) : Type 0 where
  pub head : Head
  pub live : Live
  pub opens : OpensTo file head live
  pub version : head.version ≡ 2
  pub fault_is : HasFault head live file fault

-- a front of the script of the file's objects was put
pub record PutsPart (disk : DiskState) (old : SinkState) (middle : Option (List ℕ)) : Type 0 where
  pub rows : List (ℕ × List ℕ)
  pub put : AppendsPrefix old.written middle (script_text rows)
  pub are : IsTrue disk.is_known → HoldsRows disk.bytes rows

-- a line was told, at once or after a front of the script
abbrev pub Follows : DiskState → SinkState → SinkState → List ℕ → Type 0
Follows disk old new line =
    Tells old new line ⊎ ((middle : Option (List ℕ)) × PutsPart disk old middle × Tells (record old { written = middle }) new line)

-- what stands on out when `dump` ends
pub record Dumps (disk0 disk1 : DiskState) (out0 out1 : SinkState) (status : ℕ) : Type 0 where
  pub unchanged : IsUnchanged disk0 disk1
  pub done : status ≡ 0 → (rows : List (ℕ × List ℕ)) × Appends out0.written out1.written (script_text rows)
      × (IsTrue disk0.is_known → HoldsRows disk0.bytes rows)
  pub part : status ≡ 4 → PutsPart disk0 out0 out1.written
  -- before the first line, or after a front of the script
  pub disk : status ≡ 5 → Rose disk0.faults disk1.faults × Follows disk0 out0 out1 (codes "fault disk\n")
  pub not_index : status ≡ 6 → (name : List ℕ) × Tells out0 out1 (not_index_text name) × (IsTrue disk0.is_known → IsNoIndex disk0.bytes name)
  pub memory : status ≡ 8 → Follows disk0 out0 out1 (codes "fault memory\n")
  -- nothing was put before, where the disk tells its bytes; a disk that does not may hold other bytes when a page is read again
  pub damaged : status ≡ 9 → (fault : DumpFault) × Follows disk0 out0 out1 (fault_text fault)
      × (IsTrue disk0.is_known → Tells out0 out1 (fault_text fault) × IsDamaged disk0.bytes fault)
  -- a sound file gives neither status 6 nor status 9
  pub sound : IsTrue disk0.is_known → (head : Head) (live : Live) → IsSound head live disk0.bytes → (status ≢ 6) × (status ≢ 9)

abbrev pub IsDumpStatus : ℕ → Type 0
IsDumpStatus n = (n ≡ 0) ⊎ ((n ≡ 4) ⊎ ((n ≡ 5) ⊎ ((n ≡ 6) ⊎ ((n ≡ 8) ⊎ (n ≡ 9)))))
