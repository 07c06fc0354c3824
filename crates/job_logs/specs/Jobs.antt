-- What the jobs on logs do and write, by their status.
use Rattle.std.specs.Prelude.{◌≡◌, ◌+◌, ℕ, List, length, Option, IsTrue}
use Rattle.outside_io.specs.Causes.{Rose}
use Rattle.outside_io.specs.Sinks.{SinkState}
use Rattle.disk_model.specs.Disk.{DiskState, IsUnchanged}
use Rattle.tree_shape.specs.declared.live.Live.{Live}
use Rattle.node_page.specs.declared.head.Head.{Head}
use Rattle.node_page.specs.Opening.{OpensTo}
use Rattle.log_model.specs.declared.logs.Log.{Log}
use Rattle.log_verify.specs.Judged.{log_fault}
use Rattle.prune_log.specs.Reading.{log_at, frames_at}
use Rattle.job_files.specs.Jobs.{IsNoIndex}
use Rattle.job_files.specs.Reads.{ReadsOnce, each_page, reads_of}
use Rattle.job_files.specs.declared.logs.report.Report.{Report}
use Rattle.job_files.specs.declared.logs.report.Report.TheVariants as report
use Rattle.job_files.specs.Spaces.{space_of}
use Rattle.job_files.specs.Logs.Files.{read_of, fault_of}
use Rattle.job_files.specs.Logs.JobReports.{JobReport}
use Rattle.job_files.specs.Logs.Jobs.{JudgesBytes, ReadsLogs, Writes}
use Rattle.job_logs.specs.Lines.{Judge, saying}

-- the first fault of a log on a file
abbrev pub judge_of : List ℕ → Head → Live → Judge
judge_of file head live = log_fault (space_of head) (read_of file head live) live

-- what is said about a file that opens and the bytes of its logs
pub record Says (what : Report) (file bytes : List ℕ) (said : JobReport) : Type 0 where
  pub head : Head
  pub live : Live
  pub opens : OpensTo file head live
  pub version : head.version ≡ 2
  pub said_is : said ≡ saying what (fault_of file head live) (judge_of file head live) (frames_at log_at bytes)

-- where the disk tells its bytes, a job said what there is to say about its file and the logs
abbrev pub WritesOn : Report → DiskState → List ℕ → SinkState → SinkState → ℕ → Type 0
WritesOn what disk bytes old new status = IsTrue disk.is_known → (said : JobReport) × Says what disk.bytes bytes said × Writes status said old new

-- the number of records of the logs that bytes spell
abbrev pub records_in : List ℕ → ℕ
records_in bytes = reads_of (λ (log : Log). length log.records) (frames_at log_at bytes)

-- the greatest number of reads after the index is opened: each page once where it is audited, and a page for each record of the logs
abbrev pub most_reads : Report → List ℕ → ℕ → ℕ
most_reads report.Verdicts bytes pages = records_in bytes
most_reads report.Answers bytes pages = each_page pages + records_in bytes

-- the index is unchanged, and was read at most that often
abbrev pub IsOnlyRead : Report → DiskState → DiskState → List ℕ → Type 0
IsOnlyRead what disk0 disk1 bytes = IsUnchanged disk0 disk1 × ReadsOnce (most_reads what bytes) disk0 disk1

-- what a job does with an index and the bytes of its logs
abbrev pub Judges : Report → DiskState → DiskState → List ℕ → SinkState → SinkState → ℕ → Type 0
Judges what disk0 disk1 bytes out0 out1 status =
    JudgesBytes (IsOnlyRead what disk0 disk1 bytes) (WritesOn what disk0 bytes out0 out1 status) (Rose disk0.faults disk1.faults)
    (λ name. IsTrue disk0.is_known → IsNoIndex disk0.bytes name) out0 out1 status

-- what a job does with the bytes of logs that it takes from `left0`
abbrev pub JudgesLogs : Report → DiskState → DiskState → Option (List ℕ) → Option (List ℕ) → SinkState → SinkState → ℕ → Type 0
JudgesLogs what disk0 disk1 left0 left1 out0 out1 status =
    ReadsLogs (IsUnchanged disk0 disk1) (λ bytes. Judges what disk0 disk1 bytes out0 out1 status) left0 left1 out0 out1 status
