-- What a run does for its command line's words.
use Rattle.std.specs.Prelude.{◌≡◌, ◌⊎◌, ◌<◌, ◌≤◌, ◌+◌, ◌^◌, ℕ, Bool, true, false, Option, Some, None, List, [], ◌++◌, length, codes, IfSome, IsTrue}
use Rattle.std.specs.Io.KnownBytes.{Appends, Consumes}
use Rattle.outside_io.specs.Bytes.{AppendsPrefix}
use Rattle.outside_io.specs.Causes.{Rose}
use Rattle.outside_io.specs.Sinks.{SinkState, Tells}
use Rattle.job_words.specs.Jobs.{job_of}
use Rattle.job_words.specs.Names.{kind_of, promote_number, split_number}
use Rattle.job_words.specs.declared.job.Job.{Job}
use Rattle.job_words.specs.declared.names.PolicyNames.{PolicyNames}
use Rattle.disk_model.specs.Disk.{DiskState}
use Rattle.node_page.specs.declared.head.Head.{Head}
use Rattle.job_files.specs.Jobs.{Creates, Audits, IsAuditStatus}
use Rattle.job_files.specs.Shapes.{Shapes, IsShapeStatus}
use Rattle.job_scan.specs.Jobs.{Asked, WritesScan, IsScanStatus, scan_texts}
use Rattle.job_stats.specs.Jobs.{Stats as TellsStats}
use Rattle.job_dump.specs.Jobs.{Dumps, IsDumpStatus}
use Rattle.job_show.specs.declared.report.Marks.{Marks}
use Rattle.job_show.specs.declared.report.Marks.TheVariants as marks
use Rattle.job_show.specs.Jobs.{ShowsLogs}
use Rattle.job_show_joins.specs.Jobs.{ShowsLogs as ShowsJoinLogs}
use Rattle.job_files.specs.declared.logs.report.Report.{Report}
use Rattle.job_files.specs.declared.logs.report.Report.TheVariants as report
use Rattle.job_files.specs.Logs.Jobs.{IsLogStatus}
use Rattle.job_logs.specs.Jobs.{JudgesLogs}
use Rattle.job_join.specs.Jobs.{Joins, IsJoinStatus, JudgesLogs as JudgesJoinLogs}
use Rattle.job_words.specs.declared.job.Job.TheVariants as job
use Rattle.job_words.specs.declared.names.SpaceName.{SpaceName}
use Rattle.session_run.specs.Job.{RunsSession, IsSessionStatus}
use Rattle.job_make.specs.declared.generating.Generation.{Generation}
use Rattle.job_make.specs.Jobs.{Generates, IsFillStatus}
use Rattle.job_make.specs.Migrating.{Migrates, IsMigrateStatus, RefusesNothing}
use Rattle.page_store.specs.Files.{IsLarge}
use Rattle.batch_run.specs.Jobs.Batches.{IsBatchStatus, RunsBatch}
use Rattle.job_seal.specs.Seals.{Seals, IsSealStatus}
use Rattle.job_seal.specs.Carries.{CarriesLogs, IsCarriedLogsStatus}
use Rattle.job_seal.specs.Proofs.{ProvesLogs, IsProofStatus}

-- the words ask for the scan `asked`
abbrev pub IsScan : List (List ℕ) → Asked → Type 0
IsScan words asked = job_of words ≡ Some (job.Scan asked.space asked.limit asked.show)

-- the words ask for a session
abbrev pub IsSession : List (List ℕ) → Type 0
IsSession words = (index : List ℕ) × (log : Option (List ℕ)) × (workers : ℕ) × (show : Bool) × (job_of words ≡ Some (job.Session index log workers show))

-- the line that a run without a job puts
abbrev pub usage : List ℕ
usage = codes "usage: mtree COMMAND INDEX [options]\n"

-- a run without a job put the usage line; or out failed, and a front of the line was put; or memory ran out
abbrev pub WritesUsage : SinkState → SinkState → ℕ → Type 0
WritesUsage old new status =
    ((status ≡ 2) × Appends old.written new.written usage)
    ⊎ (((status ≡ 4) × AppendsPrefix old.written new.written usage × Rose old.faults new.faults)
    ⊎ ((status ≡ 8) × Tells old new (codes "fault memory\n")))

-- ---- a run

-- the head of a new file
abbrev pub new_head : SpaceName → PolicyNames → ℕ → Head
new_head space policies limit = record {
  version = 2;
  kind = kind_of space.metric;
  dim = space.dim;
  promote = promote_number policies.promote;
  split = split_number policies.split;
  limit = limit;
}

-- the greatest limit of objects
abbrev pub most_objects : ℕ
most_objects = 16777216

-- What a run has to do: a command with its values, or no task where the words have no job. `show`, `verify` and `check` are two tasks
-- each: on the logs of queries, and on the logs of joins. `proof` is one task by an index and one by a digest.
pub data Task : Type 0 where
  Scan : Asked → Task
  Create : Head → Task
  Session : Bool → Task
  Shape : Task
  Stats : Task
  Dump : Task
  Show : Marks → Task
  ShowJoins : Marks → Task
  Audit : Task
  VerifyOrCheck : Report → Task
  VerifyOrCheckJoins : Report → Task
  Join : ℕ → Task
  Gen : Generation → Task
  Migrate : Task
  Batch : Bool → Task
  Seal : Task
  ProofByIndex : Task
  ProofByDigest : List ℕ → Task
  NoTask : Task

-- what `--marks` asks for
abbrev pub marks_of : Bool → Marks
marks_of true = marks.Count
marks_of false = marks.Each

abbrev pub task_of : Option (Job (List ℕ)) → Task
task_of (Some (job.Scan space limit show)) = Scan (record { space = space; limit = limit; show = show })
task_of (Some (job.Create index space policies limit)) = Create (new_head space policies limit)
task_of (Some (job.Session index log workers show)) = Session show
task_of (Some (job.Shape index)) = Shape
task_of (Some (job.Stats index)) = Stats
task_of (Some (job.Dump index)) = Dump
task_of (Some (job.Show index log None counts)) = Show (marks_of counts)
task_of (Some (job.Show index log (Some other) counts)) = ShowJoins (marks_of counts)
task_of (Some (job.Audit index workers)) = Audit
task_of (Some (job.Verify index log None)) = VerifyOrCheck report.Verdicts
task_of (Some (job.Verify index log (Some other))) = VerifyOrCheckJoins report.Verdicts
task_of (Some (job.Check index log None)) = VerifyOrCheck report.Answers
task_of (Some (job.Check index log (Some other))) = VerifyOrCheckJoins report.Answers
task_of (Some (job.Join index other radius log)) = Join radius
task_of (Some (job.Gen index space count seed policies workers)) =
    Gen (record { head = new_head space policies most_objects; count = count; seed = seed; workers = workers })
task_of (Some (job.Migrate index other)) = Migrate
task_of (Some (job.Batch index workers log show)) = Batch show
task_of (Some (job.Seal index)) = Seal
task_of (Some (job.Carry index log proof)) = ProofByIndex
task_of (Some (job.Prove log root)) = ProofByDigest root
task_of None = NoTask

-- ---- what each task takes and puts

-- What a task takes and puts. Every task writes to out.
pub record Uses : Type 0 where
  -- what it takes: the index, the other index, the script of the input, logs
  pub index : Bool
  pub other : Bool
  pub input : Bool
  pub log_in : Bool
  -- it puts logs
  pub log_out : Bool
  -- it may have changed the index when memory runs out
  pub changes_early : Bool
  -- it may have put logs when it fails
  pub puts_early : Bool
  -- it reads all pages of the index into memory
  pub reads_all : Bool

abbrev pub nothing : Uses
nothing = record {
  index = false;
  other = false;
  input = false;
  log_in = false;
  log_out = false;
  changes_early = false;
  puts_early = false;
  reads_all = false;
}

-- The table of the tasks. What a line does not name is false.
abbrev pub uses : Task → Uses
uses (Scan asked) = record nothing { input = true }
uses (Create head) = record nothing { index = true }
uses (Session show) = record nothing { index = true; input = true; log_out = true; changes_early = true; puts_early = true }
uses Shape = record nothing { index = true }
uses Stats = record nothing { index = true }
uses Dump = record nothing { index = true }
uses (Show what) = record nothing { index = true; log_in = true }
uses (ShowJoins what) = record nothing { index = true; other = true; log_in = true }
uses Audit = record nothing { index = true }
uses (VerifyOrCheck what) = record nothing { index = true; log_in = true }
uses (VerifyOrCheckJoins what) = record nothing { index = true; other = true; log_in = true }
uses (Join radius) = record nothing { index = true; other = true; log_out = true }
uses (Gen asked) = record nothing { index = true; changes_early = true }
uses Migrate = record nothing { index = true; other = true; changes_early = true }
uses (Batch show) = record nothing { index = true; input = true; log_out = true; puts_early = true; reads_all = true }
uses Seal = record nothing { index = true; reads_all = true }
uses ProofByIndex = record nothing { index = true; log_in = true; log_out = true; puts_early = true; reads_all = true }
uses (ProofByDigest root) = record nothing { log_in = true }
uses NoTask = nothing

-- what the task of the words takes and puts
abbrev pub uses_of : List (List ℕ) → Uses
uses_of words = uses (task_of (job_of words))

-- a task that uses this reads all pages of the index into memory, and the index has too many for that
abbrev pub HasTooManyPages : Uses → DiskState → Type 0
HasTooManyPages used disk = (used.reads_all ≡ true) × (IsTrue disk.is_known → IsLarge disk.bytes)

-- ---- what each task does

-- what a run finds or leaves: the index and the other index, what is left to read of the logs, and what was put to out and to the
-- log's output
pub record Scene : Type 1 where
  pub index : DiskState
  pub other : DiskState
  pub left : Option (List ℕ)
  pub out : SinkState
  pub log_out : SinkState

-- what a run does to what it found; `input` is what was left to read
abbrev pub Does : Task → Scene → Scene → Option (List ℕ) → ℕ → Type 0
Does (Scan asked) a b input status = IfSome input (λ bytes. WritesScan a.out b.out (scan_texts asked bytes) status)
Does (Create head) a b input status = Creates head a.index b.index a.out b.out status
Does (Session show) a b input status = RunsSession show input a.index b.index a.out b.out a.log_out b.log_out status
Does Shape a b input status = Shapes a.index b.index a.out b.out status
Does Stats a b input status = TellsStats a.index b.index a.out b.out status
Does Dump a b input status = Dumps a.index b.index a.out b.out status
Does (Show what) a b input status = ShowsLogs what a.index b.index a.left b.left a.out b.out status
Does (ShowJoins what) a b input status = ShowsJoinLogs what a.index b.index a.other b.other a.left b.left a.out b.out status
Does Audit a b input status = Audits a.index b.index a.out b.out status
Does (VerifyOrCheck what) a b input status = JudgesLogs what a.index b.index a.left b.left a.out b.out status
Does (VerifyOrCheckJoins what) a b input status = JudgesJoinLogs what a.index b.index a.other b.other a.left b.left a.out b.out status
Does (Join radius) a b input status = Joins radius a.index b.index a.other b.other a.out b.out a.log_out b.log_out status
Does (Gen asked) a b input status = Generates asked a.index b.index a.out b.out status
Does Migrate a b input status = Migrates a.index b.index a.other b.other a.out b.out status × RefusesNothing a.index a.other status
Does (Batch show) a b input status = RunsBatch show input a.index b.index a.out b.out a.log_out b.log_out status
Does Seal a b input status = Seals a.index b.index a.out b.out status
Does ProofByIndex a b input status = CarriesLogs a.index b.index a.left b.left a.log_out.written b.log_out.written a.out b.out status
Does (ProofByDigest root) a b input status = ProvesLogs root a.left b.left a.out b.out status
Does NoTask a b input status = WritesUsage a.out b.out status

-- The run took at most 2 ^ 26 bytes of input and a buffer more, and at most 2 ^ 30 bytes of logs and a buffer more. Where it took
-- more than 2 ^ 26 or 2 ^ 30, the status is 7. It is 7 only there, or where the index has too many pages.
pub record TakesWithin (Large : Type 0) (input0 input1 left0 left1 : Option (List ℕ)) (status : ℕ) : Type 0 where
  pub script_bytes : List ℕ
  pub log_bytes : List ℕ
  pub script_taken : Consumes input0 input1 script_bytes
  pub logs_taken : Consumes left0 left1 log_bytes
  pub few : length script_bytes ≤ 2 ^ 26 + 4096
  pub few_logs : length log_bytes ≤ 2 ^ 30 + 4096
  pub long : (2 ^ 26 < length script_bytes) ⊎ (2 ^ 30 < length log_bytes) → status ≡ 7
  pub only : status ≡ 7 → (2 ^ 26 < length script_bytes) ⊎ ((2 ^ 30 < length log_bytes) ⊎ Large)

-- the statuses with which a task may end
abbrev pub IsStatusOf : Task → ℕ → Type 0
IsStatusOf (Scan asked) n = IsScanStatus n
IsStatusOf (Create head) n = (n ≡ 0) ⊎ ((n ≡ 4) ⊎ ((n ≡ 5) ⊎ ((n ≡ 6) ⊎ (n ≡ 8))))
IsStatusOf (Session show) n = IsSessionStatus n
IsStatusOf Shape n = IsShapeStatus n
IsStatusOf Stats n = IsShapeStatus n
IsStatusOf Dump n = IsDumpStatus n
IsStatusOf (Show what) n = IsLogStatus n
IsStatusOf (ShowJoins what) n = IsLogStatus n
IsStatusOf Audit n = IsAuditStatus n
IsStatusOf (VerifyOrCheck what) n = IsLogStatus n
IsStatusOf (VerifyOrCheckJoins what) n = IsLogStatus n
IsStatusOf (Join radius) n = IsJoinStatus n
IsStatusOf (Gen asked) n = IsFillStatus n
IsStatusOf Migrate n = IsMigrateStatus n
IsStatusOf (Batch show) n = IsBatchStatus n
IsStatusOf Seal n = IsSealStatus n
IsStatusOf ProofByIndex n = IsCarriedLogsStatus n
IsStatusOf (ProofByDigest root) n = IsProofStatus n
IsStatusOf NoTask n = (n ≡ 2) ⊎ ((n ≡ 4) ⊎ (n ≡ 8))
