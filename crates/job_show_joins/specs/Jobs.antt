-- What the job `show` does and writes with two files, by the status with which it ends.
use Rattle.std.specs.Prelude.{◌≡◌, ℕ, true, List, [], ◌∷◌, ◌++◌, Option, Result, Ok, Err, if◌then◌else◌}
use Rattle.outside_io.specs.Sinks.{SinkState}
use Rattle.disk_model.specs.Disk.{DiskState, IsUnchanged}
use Rattle.metric_laws.specs.Space.{Space}
use Rattle.tree_shape.specs.declared.live.Live.{Live}
use Rattle.page_store.specs.Reading.{Read}
use Rattle.log_model.specs.declared.logs.JoinLog.{JoinLog}
use Rattle.log_verify.specs.JoinJudged.{join_fault}
use Rattle.prune_log.specs.declared.fault.LogFault.{LogFault}
use Rattle.prune_log.specs.Reading.{join_log_at, frames_at}
use Rattle.job_files.specs.declared.logs.report.Report.TheVariants as report
use Rattle.job_files.specs.Logs.Lines.{undecoded_text}
use Rattle.job_files.specs.Logs.JobReports.{JobReport, are_sound, end_text}
use Rattle.job_files.specs.Logs.Jobs.{JudgesBytes, ReadsLogs, Writes}
use Rattle.job_join.specs.Lines.{on_spaces}
use Rattle.job_join.specs.Trees.{Tree, is_one_space, read_of, space_of}
use Rattle.job_join.specs.Jobs.{EitherRose, IsNoPair, OnTrees}
use Rattle.job_show.specs.declared.report.Marks.{Marks}
use Rattle.job_show.specs.Jobs.{AreNodes}
use Rattle.job_show_joins.specs.Frames.{BothNodes, frame_texts, head_texts}

-- what is said of bytes that were read as logs of joins, or that have a fault
abbrev pub showing : Marks → Space → Read → Read → Live → Live → BothNodes → Result (List JoinLog) LogFault → JobReport
showing what s left right l r nodes (Err why) = record { texts = undecoded_text why ∷ []; status = 1 }
showing what s left right l r nodes (Ok logs) = record {
  texts = head_texts what ++ frame_texts what s left right l r nodes 0 logs
      ++ end_text report.Verdicts (are_sound (join_fault s left right l r) logs) ∷ [];
  status = if are_sound (join_fault s left right l r) logs then 0 else 1;
}

-- what is said of two trees of one space and the bytes of their logs
abbrev pub showing_trees : Marks → Tree → Tree → BothNodes → List ℕ → JobReport
showing_trees what left right nodes bytes =
    showing what (space_of left) (read_of left) (read_of right) left.live right.live nodes (frames_at join_log_at bytes)

-- what is said of two opened files and the bytes of their logs, where the trees have these numbers of nodes
abbrev pub said_on : Marks → Tree → Tree → BothNodes → List ℕ → JobReport
said_on what left right nodes bytes = if is_one_space left.head right.head then showing_trees what left right nodes bytes else on_spaces

-- what is said of two opened files and the bytes of their logs; where their spaces differ, no nodes are counted
pub record Shows (what : Marks) (left right : Tree) (bytes : List ℕ) (said : JobReport) : Type 0 where
  pub nodes : BothNodes
  pub left_nodes : is_one_space left.head right.head ≡ true → AreNodes (read_of left) left.live nodes.0
  pub right_nodes : is_one_space left.head right.head ≡ true → AreNodes (read_of right) right.live nodes.1
  pub said_is : said ≡ said_on what left right nodes bytes

-- where both disks tell their bytes, the job said what there is to say about both files and the logs
abbrev pub WritesShown : Marks → DiskState → DiskState → List ℕ → SinkState → SinkState → ℕ → Type 0
WritesShown what index other bytes out0 out1 status =
    OnTrees index other (λ left right. (said : JobReport) × Shows what left right bytes said × Writes status said out0 out1)

-- what the job does with two files and the bytes of their logs
abbrev pub ShowsBytes : Marks → DiskState → DiskState → DiskState → DiskState → List ℕ → SinkState → SinkState → ℕ → Type 0
ShowsBytes what index0 index1 other0 other1 bytes out0 out1 status =
    JudgesBytes (IsUnchanged index0 index1 × IsUnchanged other0 other1) (WritesShown what index0 other0 bytes out0 out1 status)
    (EitherRose index0 index1 other0 other1) (IsNoPair index0 other0) out0 out1 status

-- what the job does that takes bytes of logs from `left0`
abbrev pub ShowsLogs : Marks → DiskState → DiskState → DiskState → DiskState →
    Option (List ℕ) → Option (List ℕ) → SinkState → SinkState → ℕ → Type 0
ShowsLogs what index0 index1 other0 other1 left0 left1 out0 out1 status =
    ReadsLogs (IsUnchanged index0 index1 × IsUnchanged other0 other1)
    (λ bytes. ShowsBytes what index0 index1 other0 other1 bytes out0 out1 status) left0 left1 out0 out1 status
