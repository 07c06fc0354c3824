-- Two opened files: their spaces, what their pages hold, and what is said of them.
use Rattle.std.specs.Prelude.{◌≡◌, ℕ, ◌==◌, ◌&&◌, Bool, List, Option, if◌then◌else◌}
use Rattle.disk_model.specs.Disk.{DiskState}
use Rattle.metric_laws.specs.Space.{Space}
use Rattle.metric_mix.specs.MixSpaces.{mix_space}
use Rattle.tree_shape.specs.declared.live.Live.{Live}
use Rattle.tree_shape.specs.Tree.{Nodes, IsSoundTree, points_by_id}
use Rattle.node_page.specs.declared.head.Head.{Head}
use Rattle.node_page.specs.Opening.{OpensTo}
use Rattle.page_store.specs.Reading.{Read, reading, nodes_of}
use Rattle.page_store.specs.Shelf.{Shelf}
use Rattle.scan_model.specs.declared.hit.Pair.{Pair}
use Rattle.scan_model.specs.Join.{join_pairs}
use Rattle.tree_audit.specs.declared.faults.AuditFault.{AuditFault}
use Rattle.log_model.specs.declared.logs.JoinLog.{JoinLog}
use Rattle.log_model.specs.SoundJoin.{IsSoundJoinLog, IsLeastJoinLog}
use Rattle.log_verify.specs.JoinJudged.{join_fault}
use Rattle.prune_log.specs.Reading.{join_log_at, frames_at}
use Rattle.job_files.specs.declared.logs.report.Report.{Report}
use Rattle.job_files.specs.Logs.Files.{fault_of as first_fault}
use Rattle.job_files.specs.Logs.JobReports.{JobReport, on_logs}
use Rattle.job_join.specs.Lines.{Judge, join_words, saying, on_spaces}

-- the bytes of a file, and the head and the live slot that it opens to
pub record Tree : Type 0 where
  pub file : List ℕ
  pub head : Head
  pub live : Live

abbrev pub tree_of : DiskState → Head × Live → Tree
tree_of disk opened = record { file = disk.bytes; head = opened.0; live = opened.1 }

-- the file opens to its head and live slot, and is of version 2
pub record IsOpened (tree : Tree) : Type 0 where
  pub opens : OpensTo tree.file tree.head tree.live
  pub version : tree.head.version ≡ 2

-- the space of the head, what the pages hold, and the nodes and points among them
abbrev pub space_of : Tree → Space
space_of tree = mix_space tree.head.kind tree.head.dim

abbrev pub read_of : Tree → Read
read_of tree = reading tree.head.dim tree.live.pages tree.file

abbrev pub tree_nodes : Tree → Nodes
tree_nodes tree = nodes_of (read_of tree)

abbrev pub points_of : Tree → List (List ℕ)
points_of tree = points_by_id (tree_nodes tree) tree.live

-- the first fault of the live tree, and whether it is sound
abbrev pub fault_of : Tree → Option AuditFault
fault_of tree = first_fault tree.file tree.head tree.live

abbrev pub IsSoundFile : Tree → Type 0
IsSoundFile tree = IsSoundTree (space_of tree) (tree_nodes tree) tree.live

-- ---- two trees

-- whether two heads name one space
abbrev pub is_one_space : Head → Head → Bool
is_one_space left right = (left.kind == right.kind) && (left.dim == right.dim)

-- the first fault of a join's log on two trees
abbrev pub judge_of : Tree → Tree → Judge
judge_of left right = join_fault (space_of left) (read_of left) (read_of right) left.live right.live

-- the same, by what the pages of both sides mean
abbrev pub judge_by : Space → Shelf → Shelf → Live → Live → Judge
judge_by s left right l r = join_fault s left.read right.read l r

-- a log that is sound on the two trees, and the least one of a join
abbrev pub IsSoundLog : Tree → Tree → JoinLog → Type 0
IsSoundLog left right log = IsSoundJoinLog (space_of left) (tree_nodes left) (tree_nodes right) left.live right.live log

abbrev pub IsLeastLog : Tree → Tree → ℕ → JoinLog → Type 0
IsLeastLog left right radius log = IsLeastJoinLog (space_of left) (tree_nodes left) (tree_nodes right) left.live right.live radius log

-- the pairs of the double loop over the points of both trees
abbrev pub scanned_pairs : Tree → Tree → ℕ → List Pair
scanned_pairs left right radius = join_pairs (space_of left) (points_of left) (points_of right) radius

-- what is said of the logs that bytes spell; of two files of one space and the logs; and of any two opened files
abbrev pub said_of_logs : Report → Tree → Tree → List ℕ → JobReport
said_of_logs what left right bytes = on_logs join_words what (judge_of left right) (frames_at join_log_at bytes)

abbrev pub said_of_files : Report → Tree → Tree → List ℕ → JobReport
said_of_files what left right bytes = saying what (fault_of left) (fault_of right) (judge_of left right) (frames_at join_log_at bytes)

abbrev pub said_of : Report → Tree → Tree → List ℕ → JobReport
said_of what left right bytes = if is_one_space left.head right.head then said_of_files what left right bytes else on_spaces
