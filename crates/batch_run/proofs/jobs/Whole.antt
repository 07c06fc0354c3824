-- A batch whose script was read, or was not.
use Rattle.std.proofs.Common.{◌≡◌, ◌≢◌, ◌⊎◌, ⊎_elim, ℕ, Bool, List, [], refl, subst, arith, Option, Some, None}
use Rattle.std.specs.Prelude.{codes, IfSome}
use Rattle.std.specs.Io.KnownBytes.{Consumes, IsAtEnd}
use Rattle.outside_io.specs.Sinks.{SinkState, Tells}
use Rattle.disk_model.specs.Disk.{DiskState, IsUnchanged, MayLeave}
use Rattle.disk_model.specs.Moments.{started}
use Rattle.batch_run.specs.Jobs.Batches.{HasOpened, RunsBatch, RunsScript}
use Rattle.answer_texts.specs.Ending.{TellsFault}
use Rattle.answer_texts.proofs.Published.{input_told, line_alone, long_told, memory_told}
use Rattle.job_files.proofs.Published.{always, read_whole, weaker}
use Rattle.batch_run.proofs.jobs.Opened.{input_line, long_line, memory_line, unfinished, not_these}

unchanged_self : (disk : DiskState) → IsUnchanged disk disk
unchanged_self disk = record { same_known = refl; same_bytes = refl; same_images = λ image. (λ left. left, λ left. left); time = started disk (MayLeave disk) (λ image left. left) }

pub whole : (show : Bool) (left0 left1 : Option (List ℕ)) (bytes : List ℕ) (disk0 disk1 : DiskState) (out0 out1 log0 log1 : SinkState) (status : ℕ) → Consumes left0 left1 bytes → IsAtEnd left1 →
    HasOpened show bytes disk0 disk1 out0 out1 log0 log1 status → RunsBatch show left0 disk0 disk1 out0 out1 log0 log1 status
whole show left0 left1 bytes disk0 disk1 out0 out1 log0 log1 status took end opened = record {
  runs = weaker left0 (λ xs. bytes ≡ xs) (λ xs. RunsScript show xs disk0 out0 out1 log0 log1 status)
      (λ xs same. subst (λ (bs : List ℕ). RunsScript show bs disk0 out0 out1 log0 log1 status) same opened.runs) (read_whole left0 left1 bytes took end);
  unchanged = opened.unchanged;
  disk = opened.disk;
  not_index = opened.not_index;
  damaged = opened.damaged;
  lines = opened.lines;
  index = opened.index;
  large = opened.large;
}

-- a line is all that was put
module _ (show : Bool) (input : Option (List ℕ)) (disk : DiskState) (out0 out1 log : SinkState) (status : ℕ) where
  only_line : (k : ℕ) → status ≡ k → k ≢ 0 → k ≢ 4 → k ≢ 5 → k ≢ 6 → k ≢ 9 → TellsFault status out0 out1 → ((bytes : List ℕ) → RunsScript show bytes disk out0 out1 log log status) → RunsBatch show input disk disk out0 out1 log log status
  only_line k is done cut failed named damaged lines runs = record {
    runs = always input (λ bytes. RunsScript show bytes disk out0 out1 log log status) runs;
    unchanged = unchanged_self disk;
    disk = λ e. absurd (failed (let same : k ≡ 5 = omega arith in same));
    not_index = λ e. absurd (named (let same : k ≡ 6 = omega arith in same));
    damaged = λ e. absurd (damaged (let same : k ≡ 9 = omega arith in same));
    lines = lines;
    index = λ these. absurd (unfinished status k is done damaged these);
    large = λ is_known large these. not_these status k is done cut damaged these;
  }

  pub input_failed : status ≡ 3 → Tells out0 out1 (codes "fault input\n") → RunsBatch show input disk disk out0 out1 log log status
  input_failed is told = only_line 3 is (omega arith) (omega arith) (omega arith) (omega arith) (omega arith) (input_told status out0 out1 is (line_alone out0 out1 (codes "fault input\n") told)) (λ bytes. input_line show bytes disk out0 out1 log status is told)

  pub too_long : status ≡ 7 → Tells out0 out1 (codes "fault long\n") → RunsBatch show input disk disk out0 out1 log log status
  too_long is told = only_line 7 is (omega arith) (omega arith) (omega arith) (omega arith) (omega arith) (long_told status out0 out1 is (line_alone out0 out1 (codes "fault long\n") told)) (λ bytes. long_line show bytes disk out0 out1 log status is told)

  pub out_of_memory : status ≡ 8 → Tells out0 out1 (codes "fault memory\n") → RunsBatch show input disk disk out0 out1 log log status
  out_of_memory is told = only_line 8 is (omega arith) (omega arith) (omega arith) (omega arith) (omega arith) (memory_told status out0 out1 is (line_alone out0 out1 (codes "fault memory\n") told)) (λ bytes. memory_line show bytes disk out0 out1 log status is told)

  -- the script was not read, for one of the three reasons
  pub unread : {A B C : Type 0} → (status ≡ 3 → A × Tells out0 out1 (codes "fault input\n")) → (status ≡ 7 → B × Tells out0 out1 (codes "fault long\n"))
      → (status ≡ 8 → C × Tells out0 out1 (codes "fault memory\n")) → (status ≡ 3) ⊎ ((status ≡ 7) ⊎ (status ≡ 8))
      → RunsBatch show input disk disk out0 out1 log log status
  unread input long memory statuses = ⊎_elim (λ is. input_failed is (input is).1) (λ rest. ⊎_elim (λ is. too_long is (long is).1) (λ is. out_of_memory is (memory is).1) rest) statuses
