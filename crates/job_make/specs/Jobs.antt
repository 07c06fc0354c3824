-- What the jobs that fill a new index do and write, by their status.
use Rattle.std.specs.Prelude.{◌≡◌, ◌⊎◌, ℕ, ◌≤◌, ◌<◌, List, ◌++◌, length, codes, IsTrue}
use Rattle.std.specs.List.{range_with_len}
use Rattle.std.specs.Io.KnownBytes.{Appends}
use Rattle.outside_io.specs.Bytes.{AppendsPrefix}
use Rattle.outside_io.specs.Causes.{Rose}
use Rattle.outside_io.specs.Sinks.{SinkState, Tells}
use Rattle.disk_model.specs.Disk.{DiskState, IsUnchanged, LeavesOnly}
use Rattle.tree_shape.specs.declared.live.Live.{Live}
use Rattle.tree_shape.specs.Plain.{tree_of}
use Rattle.tree_growth.specs.Bulk.{built}
use Rattle.tree_outline.specs.Shapes.{tree_lines}
use Rattle.node_page.specs.declared.head.Head.{Head}
use Rattle.page_store.specs.declared.pages.PageFault.{PageFault}
use Rattle.page_store.specs.Files.{nodes_in}
use Rattle.shadow_root.specs.Placements.{IsFileOf}
use Rattle.rows_text.specs.Texts.{counted}
use Rattle.job_files.specs.Lines.{damaged_text, not_index_text}
use Rattle.job_make.specs.Asking.{hits_of}
use Rattle.job_files.specs.Spaces.{space_of}
use Rattle.job_make.specs.Filling.{HoldsNoneOrAll}
use Rattle.job_make.specs.Generator.{generated_rows}
use Rattle.job_make.specs.declared.generating.Generation.{Generation}

-- ---- a filled index

-- the file is a sound index with this head and these objects, in order of id; where there is an object, its tree is the one that
-- bulk loading makes of them
pub record IsFull (head : Head) (points : List (List ℕ)) (tags : List ℕ) (file : List ℕ) : Type 0 where
  pub live : Live
  pub is : IsFileOf (space_of head) head live points tags file
  pub tree : 0 < length points → tree_of (nodes_in head.dim live file) live ≡ built (space_of head) points tags

-- From some moment on a crash leaves the index with no object or with all objects. This says nothing of the moments before, when the
-- index is being made.
pub record IsFilledSince (head : Head) (points : List (List ℕ)) (tags : List ℕ) (disk : DiskState) : Type 0 where
  pub from : ℕ
  pub within : from ≤ disk.clock
  pub after : (moment : ℕ) (image : List ℕ) → from ≤ moment → moment ≤ disk.clock → disk.images moment image → HoldsNoneOrAll head points tags image

-- The disk failed while the index was made, before anything was read. Then nothing is said of the file.
abbrev pub IsUnmade : DiskState → DiskState → ℕ → Type 0
IsUnmade disk0 disk1 status = (status ≡ 5) × (disk1.reads ≡ disk0.reads)

-- Why no new index was filled. Status 5: the disk failed; 6: the file held something, and still holds it; 8: memory ran out; 9: a
-- page is damaged, which comes only on a disk that does not tell its bytes.
pub record IsUnfilled (head : Head) (points : List (List ℕ)) (tags : List ℕ) (disk0 disk1 : DiskState) (out0 out1 : SinkState) (status : ℕ) : Type 0 where
  pub disk : status ≡ 5 → Rose disk0.faults disk1.faults × Tells out0 out1 (codes "fault disk\n")
  pub not_empty : status ≡ 6 → (name : List ℕ) × Tells out0 out1 (not_index_text name)
      × (IsTrue disk0.is_known → (name ≡ codes "notempty") × (0 < length disk0.bytes) × IsUnchanged disk0 disk1)
  pub memory : status ≡ 8 → Tells out0 out1 (codes "fault memory\n")
  pub damaged : status ≡ 9 → (IsTrue disk0.is_known → ⊥) × (fault : PageFault) × Tells out0 out1 (damaged_text fault)
  -- what a crash leaves: the same as before; or the index, with no object or with all objects; or else the index was not made
  pub left : IsTrue disk0.is_known → IsUnchanged disk0 disk1 ⊎ (IsFilledSince head points tags disk1 ⊎ IsUnmade disk0 disk1 status)

-- What a job does that makes an index with this head in an empty file, fills it with these objects, and then writes a text about the
-- file.
pub record Fills (head : Head) (points : List (List ℕ)) (tags : List ℕ) (IsText : List ℕ → List ℕ →
    Type 0) (disk0 disk1 : DiskState) (out0 out1 : SinkState) (status : ℕ) : Type 0 where
  pub filled : IsTrue disk0.is_known → (status ≡ 0) ⊎ (status ≡ 4) → (length disk0.bytes ≡ 0) × IsFull head points tags disk1.bytes × LeavesOnly disk1 disk1.bytes
  pub done : IsTrue disk0.is_known → status ≡ 0 → (text : List ℕ) × IsText disk1.bytes text × Appends out0.written out1.written text
  pub part : IsTrue disk0.is_known → status ≡ 4 → (text : List ℕ) × IsText disk1.bytes text × AppendsPrefix out0.written out1.written text
  pub unfilled : IsUnfilled head points tags disk0 disk1 out0 out1 status

-- ---- generated indexes

abbrev pub points_of : Generation → List (List ℕ)
points_of asked = generated_rows asked.seed asked.head.dim asked.count

-- the tags of the rows are their numbers
abbrev pub ids_of : Generation → List ℕ
ids_of asked = range_with_len 0 asked.count

-- the lines on a generated index with its numbers of objects and nodes and its height, and on the eight queries
abbrev pub summary : ℕ → ℕ → ℕ → ℕ → ℕ → List ℕ
summary objects nodes height hits accepted =
    counted (codes "objects ") objects ++ counted (codes "nodes ") nodes ++ counted (codes "height ") height ++ codes "queries 8\n"
    ++ counted (codes "hits ") hits ++ counted (codes "accepted ") accepted

-- The lines on the file: as many objects as were asked for, the nodes and the height of its tree, as many hits as the plain scan of
-- the rows has, and every log accepted.
pub record IsSummary (asked : Generation) (file text : List ℕ) : Type 0 where
  pub live : Live
  pub is : IsFileOf (space_of asked.head) asked.head live (points_of asked) (ids_of asked) file
  pub text_is : text ≡ summary asked.count (length (tree_lines (nodes_in asked.head.dim live file) live)) live.height
      (hits_of (space_of asked.head) (points_of asked) 8) 8

abbrev pub Generates : Generation → DiskState → DiskState → SinkState → SinkState → ℕ → Type 0
Generates asked = Fills asked.head (points_of asked) (ids_of asked) (IsSummary asked)

-- the statuses with which a job that fills a new index may end
abbrev pub IsFillStatus : ℕ → Type 0
IsFillStatus n = (n ≡ 0) ⊎ ((n ≡ 4) ⊎ ((n ≡ 5) ⊎ ((n ≡ 6) ⊎ ((n ≡ 8) ⊎ (n ≡ 9)))))
