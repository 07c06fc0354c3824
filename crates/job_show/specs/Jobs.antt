-- What the job `show` does and writes, by the status with which it ends.
use Rattle.std.specs.Prelude.{◌≡◌, ℕ, List, [], ◌∷◌, ◌++◌, Option, Some, None, Result, Ok, Err, IsTrue, if◌then◌else◌}
use Rattle.outside_io.specs.Causes.{Rose}
use Rattle.outside_io.specs.Sinks.{SinkState}
use Rattle.disk_model.specs.Disk.{DiskState, IsUnchanged}
use Rattle.metric_laws.specs.Space.{Space}
use Rattle.tree_shape.specs.declared.live.Live.{Live}
use Rattle.node_page.specs.declared.head.Head.{Head}
use Rattle.node_page.specs.Opening.{OpensTo}
use Rattle.page_store.specs.Reading.{Read, nodes_of}
use Rattle.page_store.specs.Tours.{IsToured}
use Rattle.page_tour.specs.Courses.{HasNodes}
use Rattle.log_model.specs.declared.logs.Log.{Log}
use Rattle.log_verify.specs.Judged.{log_fault}
use Rattle.prune_log.specs.declared.fault.LogFault.{LogFault}
use Rattle.prune_log.specs.Reading.{log_at, frames_at}
use Rattle.job_files.specs.Jobs.{IsNoIndex}
use Rattle.job_files.specs.Spaces.{space_of}
use Rattle.job_files.specs.declared.logs.report.Report.TheVariants as report
use Rattle.job_files.specs.Logs.Files.{read_of}
use Rattle.job_files.specs.Logs.Lines.{undecoded_text}
use Rattle.job_files.specs.Logs.JobReports.{JobReport, are_sound, end_text}
use Rattle.job_files.specs.Logs.Jobs.{JudgesBytes, ReadsLogs, Writes}
use Rattle.job_show.specs.declared.report.Marks.{Marks}
use Rattle.job_show.specs.Frames.{frame_texts, head_texts}

-- what is said of bytes that were read as logs, or that have a fault
abbrev pub showing : Marks → Space → Read → Live → Option ℕ → Result (List Log) LogFault → JobReport
showing what s read live nodes (Err why) = record { texts = undecoded_text why ∷ []; status = 1 }
showing what s read live nodes (Ok logs) = record {
  texts = head_texts what ++ frame_texts what s read live nodes 0 logs
      ++ end_text report.Verdicts (are_sound (log_fault s read live) logs) ∷ [];
  status = if are_sound (log_fault s read live) logs then 0 else 1;
}

-- the number of the tree's nodes, where its walk by child numbers is whole; none where no whole walk opens at most as many pages as
-- the file has
abbrev pub AreNodes : Read → Live → Option ℕ → Type 0
AreNodes read live (Some count) = HasNodes (nodes_of read) live count
AreNodes read live None = ¬ IsToured (nodes_of read) live

-- what is said about a file that opens and the bytes of its logs
pub record Shows (what : Marks) (file bytes : List ℕ) (said : JobReport) : Type 0 where
  pub head : Head
  pub live : Live
  pub opens : OpensTo file head live
  pub version : head.version ≡ 2
  pub nodes : Option ℕ
  pub nodes_are : AreNodes (read_of file head live) live nodes
  pub said_is : said ≡ showing what (space_of head) (read_of file head live) live nodes (frames_at log_at bytes)

-- where the disk tells its bytes, the job said what there is to say about its file and the logs
abbrev pub WritesShown : Marks → DiskState → List ℕ → SinkState → SinkState → ℕ → Type 0
WritesShown what disk bytes old new status =
    IsTrue disk.is_known → (said : JobReport) × Shows what disk.bytes bytes said × Writes status said old new

-- what the job does with an index and the bytes of its logs
abbrev pub ShowsBytes : Marks → DiskState → DiskState → List ℕ → SinkState → SinkState → ℕ → Type 0
ShowsBytes what disk0 disk1 bytes out0 out1 status =
    JudgesBytes (IsUnchanged disk0 disk1) (WritesShown what disk0 bytes out0 out1 status) (Rose disk0.faults disk1.faults)
    (λ name. IsTrue disk0.is_known → IsNoIndex disk0.bytes name) out0 out1 status

-- what the job does with the bytes of logs that it takes from `left0`
abbrev pub ShowsLogs : Marks → DiskState → DiskState → Option (List ℕ) → Option (List ℕ) → SinkState → SinkState → ℕ → Type 0
ShowsLogs what disk0 disk1 left0 left1 out0 out1 status =
    ReadsLogs (IsUnchanged disk0 disk1) (λ bytes. ShowsBytes what disk0 disk1 bytes out0 out1 status) left0 left1 out0 out1 status
