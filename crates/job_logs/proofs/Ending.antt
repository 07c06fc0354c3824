-- What is said about an opened file, by what was put.
use Rattle.std.proofs.Common.{◌≡◌, ◌⊎◌, inr, ℕ, ◌+◌, ◌^◌, max, List, Some, None, refl, sym, subst, arith}
use Rattle.std.proofs.Math.Nat.{max-eq_right}
use Rattle.std.specs.Prelude.{◌≤◌, IsTrue}
use Rattle.outside_io.specs.Sinks.{SinkState}
use Rattle.disk_model.specs.Disk.{DiskState, IsUnchanged}
use Rattle.tree_shape.specs.declared.live.Live.{Live}
use Rattle.node_page.specs.declared.head.Head.{Head}
use Rattle.node_page.specs.Opening.{OpensTo}
use Rattle.prune_log.specs.Reading.{log_at, frames_at}
use Rattle.job_files.specs.declared.logs.report.Report.{Report}
use Rattle.job_files.specs.declared.logs.stop.LogStop.{LogStop}
use Rattle.job_files.specs.Logs.Files.{fault_of}
use Rattle.job_files.specs.Logs.JobReports.{JobReport}
use Rattle.job_files.specs.Logs.Jobs.{Puts, Stops, Writes}
use Rattle.job_files.proofs.Published.{said_all, said_some}
use Rattle.job_logs.specs.Lines.{saying}
use Rattle.job_files.specs.Reads.{ReadsOnce}
use Rattle.job_logs.specs.Jobs.{WritesOn, judge_of, most_reads}

abbrev pub said_of : Report → List ℕ → List ℕ → Head → Live → JobReport
said_of what file bytes head live = saying what (fault_of file head live) (judge_of file head live) (frames_at log_at bytes)

pub says_all : (what : Report) (d0 d1 : DiskState) (bytes : List ℕ) (head : Head) (live : Live) (w0 w1 : SinkState) (status : ℕ) → IsUnchanged d0 d1
    → (IsTrue d0.is_known → OpensTo d0.bytes head live) → head.version ≡ 2 → (status ≡ 0) ⊎ (status ≡ 1)
    → (IsTrue d1.is_known → Puts (said_of what d1.bytes bytes head live).texts w0.written w1.written None) → (IsTrue d1.is_known → status ≡ (said_of what d1.bytes bytes head live).status)
    → WritesOn what d0 bytes w0 w1 status
says_all what d0 d1 bytes head live w0 w1 status same opens version either puts is is_known =
    let after : IsTrue d1.is_known = subst IsTrue (sym same.same_known) is_known in (
      said_of what d0.bytes bytes head live,
      record { head = head; live = live; opens = opens is_known; version = version; said_is = refl },
      subst (λ (file : List ℕ). Writes status (said_of what file bytes head live) w0 w1) same.same_bytes (said_all (said_of what d1.bytes bytes head live) w0 w1 status either (is after) (puts after)),
    )

pub says_some : (what : Report) (d0 d1 : DiskState) (bytes : List ℕ) (head : Head) (live : Live) (w0 w1 w2 : SinkState) (status : ℕ) (why : LogStop) → IsUnchanged d0 d1
    → (IsTrue d0.is_known → OpensTo d0.bytes head live) → head.version ≡ 2 → w0.faults ≤ w1.faults
    → (IsTrue d1.is_known → Puts (said_of what d1.bytes bytes head live).texts w0.written w1.written (Some why)) → Stops why w1 w2 status
    → WritesOn what d0 bytes w0 w2 status
says_some what d0 d1 bytes head live w0 w1 w2 status why same opens version later puts ends is_known = (
  said_of what d0.bytes bytes head live,
  record { head = head; live = live; opens = opens is_known; version = version; said_is = refl },
  subst (λ (file : List ℕ). Writes status (said_of what file bytes head live) w0 w2) same.same_bytes
      (said_some (said_of what d1.bytes bytes head live) w0 w1 w2 status why later (puts (subst IsTrue (sym same.same_known) is_known)) ends),
)

-- what was opened, and how often the index was read then
pub read_once : (what : Report) (d0 d1 d2 : DiskState) (bytes : List ℕ) (head : Head) (live : Live) → (IsTrue d0.is_known → OpensTo d0.bytes head live) → head.version ≡ 2 → 4 ≤ live.pages → live.pages ≤ 2 ^ 24
    → d1.reads ≤ d0.reads + 3 → d2.reads ≤ d1.reads + most_reads what bytes (max 1 live.pages) → ReadsOnce (most_reads what bytes) d0 d2
read_once what d0 d1 d2 bytes head live opens version some few first next =
    let most : d2.reads ≤ d1.reads + most_reads what bytes live.pages = subst (λ (n : ℕ). d2.reads ≤ d1.reads + most_reads what bytes n) (max-eq_right (omega (arith, some))) next in
    inr (head, live, opens, version, few, omega (arith, first, most))
