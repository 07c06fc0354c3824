-- What the jobs on two files do and write, by their status.
use Rattle.std.specs.Prelude.{◌≡◌, ◌≢◌, ◌⊎◌, ◌^◌, ◌≤◌, ℕ, true, false, List, codes, Option, Err, IsTrue}
use Rattle.std.specs.Io.KnownBytes.{Appends}
use Rattle.outside_io.specs.Bytes.{AppendsPrefix}
use Rattle.outside_io.specs.Causes.{Rose}
use Rattle.outside_io.specs.Sinks.{SinkState, Tells}
use Rattle.disk_model.specs.Disk.{DiskState, IsUnchanged}
use Rattle.node_page.specs.Heads.{IsValidHead}
use Rattle.page_store.specs.declared.pages.PageFault.{PageFault}
use Rattle.page_store.specs.declared.pages.PageFault.TheVariants as pages
use Rattle.log_model.specs.declared.logs.JoinLog.{JoinLog}
use Rattle.prune_log.specs.Spelling.{join_log_bytes, frame_bytes}
use Rattle.metric_join.specs.declared.faults.JoinFault.{JoinFault}
use Rattle.metric_join.specs.declared.faults.JoinFault.TheVariants as join
use Rattle.page_store.specs.Tours.{Names, NamesInside}
use Rattle.job_files.specs.Lines.{damaged_text, not_index_text}
use Rattle.job_files.specs.Jobs.{IsNoIndex}
use Rattle.job_files.specs.declared.logs.report.Report.{Report}
use Rattle.job_files.specs.Logs.Jobs.{JudgesBytes, ReadsLogs, Writes}
use Rattle.job_join.specs.declared.opened.Trees.{Trees}
use Rattle.job_join.specs.Lines.{pairs_text, spaces_text}
use Rattle.job_join.specs.Trees.{Tree, tree_of, IsOpened, IsSoundFile, IsLeastLog, is_one_space, read_of, tree_nodes, scanned_pairs, said_of}

-- ---- opening

-- the heads and live slots are valid, even on disks that don't tell their bytes
pub record AreValid (trees : Trees) : Type 0 where
  pub left_head : IsValidHead trees.left.0
  pub right_head : IsValidHead trees.right.0
  pub left_pages : trees.left.1.pages ≤ 2 ^ 24
  pub right_pages : trees.right.1.pages ≤ 2 ^ 24

-- a file opens as an index of version 2
abbrev pub IsIndex : List ℕ → Type 0
IsIndex file = (tree : Tree) × (tree.file ≡ file) × IsOpened tree

-- the file `index` is no index, as `name` says; or it is one, and `other` is none
abbrev pub IsNoPair : DiskState → DiskState → List ℕ → Type 0
IsNoPair index other name =
    (IsTrue index.is_known → IsNoIndex index.bytes name)
    ⊎ ((IsTrue index.is_known → IsIndex index.bytes) × (IsTrue other.is_known → IsNoIndex other.bytes name))

-- one of the two disks failed
abbrev pub EitherRose : DiskState → DiskState → DiskState → DiskState → Type 0
EitherRose index0 index1 other0 other1 = Rose index0.faults index1.faults ⊎ Rose other0.faults other1.faults

-- the disk failed, or one of the files is no index of version 2
pub record Refuses (index0 index1 other0 other1 : DiskState) (out0 out1 : SinkState) (status : ℕ) : Type 0 where
  pub disk : status ≡ 5 → EitherRose index0 index1 other0 other1 × Tells out0 out1 (codes "fault disk\n")
  pub not_index : status ≡ 6 → (name : List ℕ) × Tells out0 out1 (not_index_text name) × IsNoPair index0 other0 name
  pub statuses : (status ≡ 5) ⊎ (status ≡ 6)

-- where both disks tell their bytes, both files open to trees that satisfy `Holds`
abbrev pub OnTrees : DiskState → DiskState → (Tree → Tree → Type 0) → Type 0
OnTrees index other Holds =
    IsTrue index.is_known → IsTrue other.is_known →
    (left : Tree) × (right : Tree) × (left.file ≡ index.bytes) × (right.file ≡ other.bytes) × IsOpened left × IsOpened right × Holds left right

-- ---- verify and check

-- the job said what there is to say about both files and the logs, as far as the status tells
abbrev pub WritesOn : Report → DiskState → DiskState → List ℕ → SinkState → SinkState → ℕ → Type 0
WritesOn what index other bytes out0 out1 status = OnTrees index other (λ left right. Writes status (said_of what left right bytes) out0 out1)

-- what a job does with two files and the bytes of their logs
abbrev pub Judges : Report → DiskState → DiskState → DiskState → DiskState → List ℕ → SinkState → SinkState → ℕ → Type 0
Judges what index0 index1 other0 other1 bytes out0 out1 status =
    JudgesBytes (IsUnchanged index0 index1 × IsUnchanged other0 other1) (WritesOn what index0 other0 bytes out0 out1 status)
    (EitherRose index0 index1 other0 other1) (IsNoPair index0 other0) out0 out1 status

-- what a job does that takes bytes of logs from `left0`
abbrev pub JudgesLogs : Report → DiskState → DiskState → DiskState → DiskState → Option (List ℕ) → Option (List ℕ) → SinkState → SinkState → ℕ → Type 0
JudgesLogs what index0 index1 other0 other1 left0 left1 out0 out1 status =
    ReadsLogs (IsUnchanged index0 index1 × IsUnchanged other0 other1)
    (λ bytes. Judges what index0 index1 other0 other1 bytes out0 out1 status) left0 left1 out0 out1 status

-- ---- join

-- the log is the least one of the join, and on two sound files its answers are the pairs of the double loop
pub record IsJoinOf (radius : ℕ) (log : JoinLog) (left right : Tree) : Type 0 where
  pub one_space : is_one_space left.head right.head ≡ true
  pub least : IsLeastLog left right radius log
  pub scanned : IsSoundFile left → IsSoundFile right → log.answers ≡ scanned_pairs left right radius

-- the log's frame and then the lines of its answers were put whole
pub record PutsJoin (log : JoinLog) (out0 out1 log0 log1 : SinkState) : Type 0 where
  pub frame : Appends log0.written log1.written (frame_bytes (join_log_bytes log))
  pub pairs : Appends out0.written out1.written (pairs_text log.answers)

-- a front of the frame was put, and no line; or the frame was put, and a front of the lines
abbrev pub CutsJoin : JoinLog → SinkState → SinkState → SinkState → SinkState → Type 0
CutsJoin log out0 out1 log0 log1 =
    (AppendsPrefix log0.written log1.written (frame_bytes (join_log_bytes log)) × (out1 ≡ out0))
    ⊎ (Appends log0.written log1.written (frame_bytes (join_log_bytes log)) × AppendsPrefix out0.written out1.written (pairs_text log.answers))

-- the trees have different spaces
abbrev pub HaveOtherSpaces : Tree → Tree → Type 0
HaveOtherSpaces left right = is_one_space left.head right.head ≡ false

-- The walk of the live tree by child numbers reaches this page, which holds no node or is outside the file. Or the walk names this
-- page after it has opened as many pages as there are.
abbrev pub IsDamaged : Tree → PageFault → Type 0
IsDamaged tree (pages.Bad page fault) = (read_of tree page ≡ Err (pages.Bad page fault)) × NamesInside (tree_nodes tree) tree.live page
IsDamaged tree (pages.Outside page) = (read_of tree page ≡ Err (pages.Outside page)) × NamesInside (tree_nodes tree) tree.live page
IsDamaged tree (pages.Repeats page) = Names (tree_nodes tree) tree.live.root tree.live.pages page
IsDamaged tree _ = ⊥

-- two trees of one space; one of them is damaged, and not both are sound
pub record AreDamaged (fault : PageFault) (left right : Tree) : Type 0 where
  pub one_space : is_one_space left.head right.head ≡ true
  pub damaged : IsDamaged left fault ⊎ IsDamaged right fault
  pub unsound : IsSoundFile left → IsSoundFile right → ⊥

-- a page of two opened files gave no node
abbrev pub HasDamage : Trees → DiskState → DiskState → PageFault → Type 0
HasDamage trees index other fault =
    IsTrue index.is_known → IsTrue other.is_known → AreDamaged fault (tree_of index trees.left) (tree_of other trees.right)

-- why the join of two opened files fails: a disk failed, memory ran out, or a page gave no node; `faults` and `other_faults` are the
-- disks' counts of faults now
abbrev pub HasRefusal : Trees → DiskState → ℕ → DiskState → ℕ → JoinFault → Type 0
HasRefusal trees index faults other other_faults join.Memory = Unit {0}
HasRefusal trees index faults other other_faults (join.Left pages.Disk) = Rose index.faults faults
HasRefusal trees index faults other other_faults (join.Right pages.Disk) = Rose other.faults other_faults
HasRefusal trees index faults other other_faults (join.Left fault) = HasDamage trees index other fault
HasRefusal trees index faults other other_faults (join.Right fault) = HasDamage trees index other fault

-- the fault is that of a page that gave no node, and the disk did not fail
abbrev pub IsDamage : JoinFault → PageFault → Type 0
IsDamage fault page = (page ≢ pages.Disk) × ((fault ≡ join.Left page) ⊎ (fault ≡ join.Right page))

-- the disk of a side failed
abbrev pub IsDiskFault : JoinFault → Type 0
IsDiskFault fault = (fault ≡ join.Left pages.Disk) ⊎ (fault ≡ join.Right pages.Disk)

-- how a refused join ends
pub record EndsRefused (fault : JoinFault) (out0 out1 : SinkState) (status : ℕ) : Type 0 where
  pub disk : status ≡ 5 → IsDiskFault fault × Tells out0 out1 (codes "fault disk\n")
  pub memory : status ≡ 8 → Tells out0 out1 (codes "fault memory\n")
  pub damaged : status ≡ 9 → (page : PageFault) × IsDamage fault page × Tells out0 out1 (damaged_text page)
  pub statuses : (status ≡ 5) ⊎ ((status ≡ 8) ⊎ (status ≡ 9))

-- what a join does with two files
pub record Joins (radius : ℕ) (index0 index1 other0 other1 : DiskState) (out0 out1 log0 log1 : SinkState) (status : ℕ) : Type 0 where
  pub unchanged : IsUnchanged index0 index1 × IsUnchanged other0 other1
  pub done : status ≡ 0 → (log : JoinLog) × PutsJoin log out0 out1 log0 log1 × OnTrees index0 other0 (IsJoinOf radius log)
  pub spaces : status ≡ 1 → Appends out0.written out1.written spaces_text × OnTrees index0 other0 HaveOtherSpaces
  pub output : status ≡ 4 →
      (AppendsPrefix out0.written out1.written spaces_text × (log1 ≡ log0) × OnTrees index0 other0 HaveOtherSpaces)
      ⊎ ((log : JoinLog) × CutsJoin log out0 out1 log0 log1 × OnTrees index0 other0 (IsJoinOf radius log))
  pub disk : status ≡ 5 → EitherRose index0 index1 other0 other1 × Tells out0 out1 (codes "fault disk\n")
  pub not_index : status ≡ 6 → (name : List ℕ) × Tells out0 out1 (not_index_text name) × IsNoPair index0 other0 name
  pub memory : status ≡ 8 → Tells out0 out1 (codes "fault memory\n")
  -- a page of a file that is not sound is damaged
  pub damaged : status ≡ 9 → (fault : PageFault) × Tells out0 out1 (damaged_text fault) × OnTrees index0 other0 (AreDamaged fault)

abbrev pub IsJoinStatus : ℕ → Type 0
IsJoinStatus n = (n ≡ 0) ⊎ ((n ≡ 1) ⊎ ((n ≡ 4) ⊎ ((n ≡ 5) ⊎ ((n ≡ 6) ⊎ ((n ≡ 8) ⊎ (n ≡ 9))))))
