-- What holds for each task where memory ran out before the run began.
use Rattle.std.proofs.Common.{◌≡◌, ◌≢◌, ◌⊎◌, inl, inr, ⊎_elim, ℕ, ◌≤◌, ◌%◌, ◌<◌, ◌+◌, ◌^◌, length, List, [], Option, Some, Bool, true, false, IsTrue, refl, sym, ◌∙◌, ap, subst, arith}
use Rattle.std.specs.Prelude.{codes, ◌↔◌}
use Rattle.std.specs.Io.KnownBytes.{Consumes}
use Rattle.std.proofs.KnownBytes.{Appends-nil, Consumes-nil}
use Rattle.outside_io.specs.Bytes.{TakesUpTo}
use Rattle.outside_io.specs.Sinks.{SinkState, Tells}
use Rattle.outside_io.specs.Causes.{Rose}
use Rattle.disk_model.specs.Disk.{DiskState, IsUnchanged, MayLeave}
use Rattle.disk_model.specs.Moments.{started}
use Rattle.node_page.specs.Heads.{is_version, is_space, is_policy, is_limit}
use Rattle.job_words.specs.Names.{kind_of, is_generated, is_halved, promote_number, split_number}
use Rattle.job_words.specs.declared.names.MetricName.{MetricName}
use Rattle.job_words.specs.declared.names.MetricName.TheVariants.{Hamming, L1, Max, Kendall, Hausdorff, MixSum, MixMax, L1Cap}
use Rattle.job_words.specs.declared.names.Promote.{Promote}
use Rattle.job_words.specs.declared.names.Promote.TheVariants.{Mrad, Mmrad}
use Rattle.job_words.specs.declared.names.Split.{Split}
use Rattle.job_words.specs.declared.names.Split.TheVariants.{Hyperplane, Balanced}
use Rattle.std.specs.Borrow.{Bor}
use Rattle.job_words.specs.Jobs.{job_of, texts_in}
use Rattle.job_words.specs.declared.job.Job.{Job}
use Rattle.job_files.specs.declared.logs.report.Report.{Report}
use Rattle.job_logs.specs.Jobs.{JudgesLogs}
use Rattle.job_join.specs.Jobs.{Joins, JudgesLogs as JudgesJoinLogs}
use Rattle.job_show.specs.declared.report.Marks.{Marks}
use Rattle.job_show.specs.Jobs.{ShowsLogs}
use Rattle.job_show_joins.specs.Jobs.{ShowsLogs as ShowsJoinLogs}
use Rattle.job_files.proofs.Published.{always}
use Rattle.session_run.proofs.Published.{memory_session}
use Rattle.job_scan.specs.Jobs.{scan_texts}
use Rattle.mtree_cli.specs.Run.{Task, Uses, Scene, Does, HasTooManyPages, IsStatusOf, TakesWithin, nothing, task_of, uses, uses_of}
use Rattle.std.proofs.lemmas.Bool.{true≢false}
use Rattle.batch_run.specs.Jobs.Batches.{IsTooLong}
use Rattle.batch_run.proofs.Published.{out_of_memory}
use Rattle.job_make.specs.Jobs.{IsSummary, ids_of, points_of}
use Rattle.job_make.proofs.Published.{no_memory, migrates_no_memory}
use Rattle.job_make.specs.Migrating.{RefusesNothing}
use Rattle.mtree_cli.specs.Run.Task.{Scan, Create, Session, Shape, Stats, Dump, Show, ShowJoins, Audit, VerifyOrCheck, VerifyOrCheckJoins, Join, Gen, Migrate, Batch, Seal, ProofByIndex, ProofByDigest, NoTask}
use Rattle.job_seal.specs.Seals.{Seals}
use Rattle.job_seal.specs.Carries.{CarriesLogs}
use Rattle.job_seal.specs.Proofs.{ProvesLogs}
use Rattle.job_files.specs.declared.logs.stop.LogStop.{LogStop}
use Rattle.job_files.specs.declared.logs.stop.LogStop.TheVariants as stop
use Rattle.job_scan.proofs.Published.{fault_writes, memory_ends}

-- the task of a job of the words
pub task_is : (words : List (List ℕ)) (found named : Job (Bor (List ℕ))) → job_of words ≡ Some (texts_in found) → found ≡ named → task_of (job_of words) ≡ task_of (Some (texts_in named))
task_is words found named is same = ap task_of (is ∙ ap (λ (f : Job (Bor (List ℕ))). Some (texts_in f)) same)

-- what the task of the job uses is not left alone
pub is_used : (part : Uses → Bool) (words : List (List ℕ)) (found named : Job (Bor (List ℕ))) → job_of words ≡ Some (texts_in found) → found ≡ named
    → part (uses (task_of (Some (texts_in named)))) ≡ true → part (uses_of words) ≢ false
is_used part words found named is same used free = true≢false (sym used ∙ sym (ap (λ (t : Task). part (uses t)) (task_is words found named is same)) ∙ free)

-- no call was made
pub unchanged : (disk : DiskState) → IsUnchanged disk disk
unchanged disk = record {
  same_known = refl;
  same_bytes = refl;
  same_images = λ image. (λ left. left, λ left. left);
  time = started disk (MayLeave disk) (λ image left. left);
}

-- no logs were taken
no_logs_judged : (what : Report) (disk : DiskState) (left : Option (List ℕ)) (o0 o1 : SinkState) → Tells o0 o1 (codes "fault memory\n") → JudgesLogs what disk disk left left o0 o1 8
no_logs_judged what disk left o0 o1 line = record {
  bytes = [];
  taken = Consumes-nil left;
  few = omega arith;
  long = (λ is. absurd (omega arith), λ many. absurd (omega arith));
  all = λ a b other. absurd (other refl);
  judges = λ a b. record {
    unchanged = (unchanged disk, inl (omega arith));
    done = λ is. ⊎_elim (λ e. absurd (omega arith)) (λ e. absurd (omega arith)) is;
    output = λ is. absurd (omega arith);
    disk = λ is. absurd (omega arith);
    not_index = λ is. absurd (omega arith);
    memory = λ is. inl line;
  };
  unchanged = unchanged disk;
  input_line = λ is. absurd (omega arith);
  long_line = λ is. absurd (omega arith);
}

no_logs_shown : (what : Marks) (disk : DiskState) (left : Option (List ℕ)) (o0 o1 : SinkState) → Tells o0 o1 (codes "fault memory\n") → ShowsLogs what disk disk left left o0 o1 8
no_logs_shown what disk left o0 o1 line = record {
  bytes = [];
  taken = Consumes-nil left;
  few = omega arith;
  long = (λ is. absurd (omega arith), λ many. absurd (omega arith));
  all = λ a b other. absurd (other refl);
  judges = λ a b. record {
    unchanged = unchanged disk;
    done = λ is. ⊎_elim (λ e. absurd (omega arith)) (λ e. absurd (omega arith)) is;
    output = λ is. absurd (omega arith);
    disk = λ is. absurd (omega arith);
    not_index = λ is. absurd (omega arith);
    memory = λ is. inl line;
  };
  unchanged = unchanged disk;
  input_line = λ is. absurd (omega arith);
  long_line = λ is. absurd (omega arith);
}

no_join_logs_shown : (what : Marks) (disk other : DiskState) (left : Option (List ℕ)) (o0 o1 : SinkState) → Tells o0 o1 (codes "fault memory\n") → ShowsJoinLogs what disk disk other other left left o0 o1 8
no_join_logs_shown what disk other left o0 o1 line = record {
  bytes = [];
  taken = Consumes-nil left;
  few = omega arith;
  long = (λ is. absurd (omega arith), λ many. absurd (omega arith));
  all = λ a b c. absurd (c refl);
  judges = λ a b. record {
    unchanged = (unchanged disk, unchanged other);
    done = λ is. ⊎_elim (λ e. absurd (omega arith)) (λ e. absurd (omega arith)) is;
    output = λ is. absurd (omega arith);
    disk = λ is. absurd (omega arith);
    not_index = λ is. absurd (omega arith);
    memory = λ is. inl line;
  };
  unchanged = (unchanged disk, unchanged other);
  input_line = λ is. absurd (omega arith);
  long_line = λ is. absurd (omega arith);
}

no_join_logs_judged : (what : Report) (disk other : DiskState) (left : Option (List ℕ)) (o0 o1 : SinkState) → Tells o0 o1 (codes "fault memory\n") → JudgesJoinLogs what disk disk other other left left o0 o1 8
no_join_logs_judged what disk other left o0 o1 line = record {
  bytes = [];
  taken = Consumes-nil left;
  few = omega arith;
  long = (λ is. absurd (omega arith), λ many. absurd (omega arith));
  all = λ a b c. absurd (c refl);
  judges = λ a b. record {
    unchanged = (unchanged disk, unchanged other);
    done = λ is. ⊎_elim (λ e. absurd (omega arith)) (λ e. absurd (omega arith)) is;
    output = λ is. absurd (omega arith);
    disk = λ is. absurd (omega arith);
    not_index = λ is. absurd (omega arith);
    memory = λ is. inl line;
  };
  unchanged = (unchanged disk, unchanged other);
  input_line = λ is. absurd (omega arith);
  long_line = λ is. absurd (omega arith);
}

-- a run where memory runs out refuses no file
no_file_refused : (disk other : DiskState) → RefusesNothing disk other 8
no_file_refused disk other is_known told empty head points tags is = (λ e. absurd (omega (arith, e)), λ e. absurd (omega (arith, e)), λ e. absurd (omega (arith, e)))

-- running out of memory is no failed output
is_no_sink : LogStop → Type 0
is_no_sink stop.Sink = ⊥
is_no_sink other = Unit {0}

no_output : stop.Memory ≢ stop.Sink
unfolding is_no_sink
no_output e = subst is_no_sink e tt

-- a scene with the given output
abbrev pub scene : DiskState → DiskState → Option (List ℕ) → SinkState → SinkState → Scene
scene disk other left log_out out = record { index = disk; other = other; left = left; out = out; log_out = log_out }

pub does_at_memory : (task : Task) (disk other : DiskState) (input left : Option (List ℕ)) (v o0 o1 : SinkState) → Tells o0 o1 (codes "fault memory\n") → Does task (scene disk other left v o0) (scene disk other left v o1) input 8
does_at_memory (Scan asked) disk other input left v o0 o1 line = always _ _ (λ bytes. fault_writes o0 o1 (scan_texts asked bytes) 8 _ line (λ front part. memory_ends (Rose o0.faults o1.faults) 8 [] _ front refl part))
does_at_memory (Create head) disk other input left v o0 o1 line = record {
  made = λ is. ⊎_elim (λ e. absurd (omega arith)) (λ e. absurd (omega arith)) is;
  done = λ is. absurd (omega arith);
  part = λ is. absurd (omega arith);
  disk = λ is. absurd (omega arith);
  not_empty = λ is. absurd (omega arith);
  memory = λ is. (unchanged disk, line);
}
does_at_memory (Session show) disk other input left v o0 o1 line = memory_session show input disk o0 o1 v 8 refl line
does_at_memory Shape disk other input left v o0 o1 line = record {
  unchanged = unchanged disk;
  done = λ is. absurd (omega arith);
  part = λ is. absurd (omega arith);
  disk = λ is. absurd (omega arith);
  not_index = λ is. absurd (omega arith);
  memory = λ is. line;
  damaged = λ is. absurd (omega arith);
  sound = λ is_known head live sound. (λ is. absurd (omega arith), λ is. absurd (omega arith));
}
does_at_memory Stats disk other input left v o0 o1 line = record {
  unchanged = unchanged disk;
  done = λ is. absurd (omega arith);
  part = λ is. absurd (omega arith);
  disk = λ is. absurd (omega arith);
  not_index = λ is. absurd (omega arith);
  memory = λ is. line;
  damaged = λ is. absurd (omega arith);
  sound = λ is_known head live sound. (λ is. absurd (omega arith), λ is. absurd (omega arith));
}
does_at_memory Dump disk other input left v o0 o1 line = record {
  unchanged = unchanged disk;
  done = λ is. absurd (omega arith);
  part = λ is. absurd (omega arith);
  disk = λ is. absurd (omega arith);
  not_index = λ is. absurd (omega arith);
  memory = λ is. inl line;
  damaged = λ is. absurd (omega arith);
  sound = λ is_known head live sound. (λ is. absurd (omega arith), λ is. absurd (omega arith));
}
does_at_memory (Show what) disk other input left v o0 o1 line = no_logs_shown what disk left o0 o1 line
does_at_memory (ShowJoins what) disk other input left v o0 o1 line = no_join_logs_shown what disk other left o0 o1 line
does_at_memory Audit disk other input left v o0 o1 line = record {
  unchanged = unchanged disk;
  sound = λ is. absurd (omega arith);
  rejected = λ is. absurd (omega arith);
  part = λ is. absurd (omega arith);
  disk = λ is. absurd (omega arith);
  not_index = λ is. absurd (omega arith);
  memory = λ is. line;
}
does_at_memory (VerifyOrCheck what) disk other input left v o0 o1 line = no_logs_judged what disk left o0 o1 line
does_at_memory (VerifyOrCheckJoins what) disk other input left v o0 o1 line = no_join_logs_judged what disk other left o0 o1 line
does_at_memory (Join radius) disk other input left v o0 o1 line = record {
  unchanged = (unchanged disk, unchanged other);
  done = λ is. absurd (omega arith);
  spaces = λ is. absurd (omega arith);
  output = λ is. absurd (omega arith);
  disk = λ is. absurd (omega arith);
  not_index = λ is. absurd (omega arith);
  memory = λ is. line;
  damaged = λ is. absurd (omega arith);
}
does_at_memory (Gen asked) disk other input left v o0 o1 line = no_memory asked.head (points_of asked) (ids_of asked) (IsSummary asked) disk o0 o1 8 refl line
does_at_memory Migrate disk other input left v o0 o1 line = (migrates_no_memory disk other o0 o1 8 refl line, no_file_refused disk other)
does_at_memory (Batch show) disk other input left v o0 o1 line = out_of_memory show input disk o0 o1 v 8 refl line
does_at_memory Seal disk other input left v o0 o1 line = record {
  unchanged = unchanged disk;
  sealed = λ is. absurd (omega arith);
  rejected = λ is. absurd (omega arith);
  part = λ is. absurd (omega arith);
  disk = λ is. absurd (omega arith);
  not_index = λ is. absurd (omega arith);
  long = λ is. absurd (omega arith);
  memory = λ is. line;
  large = λ is. ⊎_elim (λ e. absurd (omega arith)) (λ rest. ⊎_elim (λ e. absurd (omega arith)) (λ e. absurd (omega arith)) rest) is;
}
does_at_memory ProofByIndex disk other input left v o0 o1 line = record {
  bytes = [];
  taken = Consumes-nil left;
  few = omega arith;
  too_many = λ many. absurd (omega arith);
  all = λ a b other. absurd (b refl);
  unchanged = unchanged disk;
  done = λ is. ⊎_elim (λ e. absurd (omega arith)) (λ e. absurd (omega arith)) is;
  halted = λ is_known. record {
    output = λ is. absurd (omega arith);
    disk = λ is. absurd (omega arith);
    memory = λ is. (o0.written, inl (no_output, refl, refl), line);
  };
  input_line = λ is. absurd (omega arith);
  no_frame = λ refusal. refl;
  not_index = λ is. absurd (omega arith);
  long = λ is. absurd (omega arith);
}
does_at_memory (ProofByDigest root) disk other input left v o0 o1 line = record {
  bytes = [];
  taken = Consumes-nil left;
  few = omega arith;
  long = (λ is. absurd (omega arith), λ many. absurd (omega arith));
  middle = o0.written;
  before = record { shown = []; rest = []; framed = refl; told = tt; written = Appends-nil o0.written };
  done = λ is. ⊎_elim (λ e. absurd (omega arith)) (λ e. absurd (omega arith)) is;
  output = λ is. absurd (omega arith);
  input_line = λ is. absurd (omega arith);
  long_line = λ is. absurd (omega arith);
  memory_line = λ is. line;
}
does_at_memory NoTask disk other input left v o0 o1 line = inr (inr (refl, line))

pub memory_does : (task : Task) (disk other : DiskState) (input left : Option (List ℕ)) (v o0 o1 : SinkState) (status : ℕ) → status ≡ 8 → Tells o0 o1 (codes "fault memory\n") → Does task (scene disk other left v o0) (scene disk other left v o1) input status
memory_does task disk other input left v o0 o1 status is line = subst (Does task (scene disk other left v o0) (scene disk other left v o1) input) (sym is) (does_at_memory task disk other input left v o0 o1 line)

status_eight : (task : Task) → IsStatusOf task 8
status_eight (Scan asked) = inr (inr (inr (inr refl)))
status_eight (Create head) = inr (inr (inr (inr refl)))
status_eight (Session show) = inr (inr (inr (inr (inr (inr (inl refl))))))
status_eight Shape = inr (inr (inr (inr (inl refl))))
status_eight Stats = inr (inr (inr (inr (inl refl))))
status_eight Dump = inr (inr (inr (inr (inl refl))))
status_eight (Show what) = inr (inr (inr (inr (inr (inr (inr refl))))))
status_eight (ShowJoins what) = inr (inr (inr (inr (inr (inr (inr refl))))))
status_eight Audit = inr (inr (inr (inr (inr refl))))
status_eight (VerifyOrCheck what) = inr (inr (inr (inr (inr (inr (inr refl))))))
status_eight (VerifyOrCheckJoins what) = inr (inr (inr (inr (inr (inr (inr refl))))))
status_eight (Join radius) = inr (inr (inr (inr (inr (inl refl)))))
status_eight (Gen asked) = inr (inr (inr (inr (inl refl))))
status_eight Migrate = inr (inr (inr (inr (inr (inl refl)))))
status_eight (Batch show) = inr (inr (inr (inr (inr (inr (inl refl))))))
status_eight Seal = inr (inr (inr (inr (inr (inr refl)))))
status_eight ProofByIndex = inr (inr (inr (inr (inr (inr (inr refl))))))
status_eight (ProofByDigest root) = inr (inr (inr (inr (inr refl))))
status_eight NoTask = inr (inr refl)

pub memory_status : (task : Task) (status : ℕ) → status ≡ 8 → IsStatusOf task status
memory_status task status is = subst (IsStatusOf task) (sym is) (status_eight task)

-- nothing was taken, and the status is not that of too much
pub nothing_taken : (Large : Type 0) (input left : Option (List ℕ)) (status : ℕ) → status ≢ 7 → TakesWithin Large input input left left status
nothing_taken Large input left status other = record {
  script_bytes = [];
  log_bytes = [];
  script_taken = Consumes-nil input;
  logs_taken = Consumes-nil left;
  few = omega arith;
  few_logs = omega arith;
  long = λ long. ⊎_elim (λ l. absurd (omega arith)) (λ l. absurd (omega arith)) long;
  only = λ is. absurd (other is);
}

-- input alone was taken
pub input_taken : (Large : Type 0) (input0 input1 left : Option (List ℕ)) (status : ℕ) → TakesUpTo (2 ^ 26) input0 input1 (status ≡ 7) → TakesWithin Large input0 input1 left left status
input_taken Large input0 input1 left status took = record {
  script_bytes = took.bytes;
  log_bytes = [];
  script_taken = took.taken;
  logs_taken = Consumes-nil left;
  few = took.few;
  few_logs = omega arith;
  long = λ long. ⊎_elim (λ l. took.long.1 l) (λ l. absurd (omega arith)) long;
  only = λ is. inl (took.long.0 is);
}

-- the index is too large for a task that reads all of it
abbrev pub IsTooLarge : DiskState → Type 0
IsTooLarge disk = HasTooManyPages (record nothing { reads_all = true }) disk

pub batch_taken : (input0 input1 left : Option (List ℕ)) (disk : DiskState) (status : ℕ) → IsTooLong input0 input1 disk status → TakesWithin (IsTooLarge disk) input0 input1 left left status
batch_taken input0 input1 left disk status took = record {
  script_bytes = took.bytes;
  log_bytes = [];
  script_taken = took.taken;
  logs_taken = Consumes-nil left;
  few = took.few;
  few_logs = omega arith;
  long = λ long. ⊎_elim (λ l. took.long l) (λ l. absurd (omega arith)) long;
  only = λ is. ⊎_elim (λ l. inl l) (λ l. inr (inr (refl, l))) (took.only is);
}

-- logs alone were taken
within_logs : (Large : Type 0) (input left0 left1 : Option (List ℕ)) (status : ℕ) (bytes : List ℕ) → Consumes left0 left1 bytes → length bytes ≤ 2 ^ 30 + 4096 → (status ≡ 7) ↔ (2 ^ 30 < length bytes) → TakesWithin Large input input left0 left1 status
within_logs Large input left0 left1 status bytes taken few long = record {
  script_bytes = [];
  log_bytes = bytes;
  script_taken = Consumes-nil input;
  logs_taken = taken;
  few = omega arith;
  few_logs = few;
  long = λ either. ⊎_elim (λ l. absurd (omega arith)) (λ l. long.1 l) either;
  only = λ is. inr (inl (long.0 is));
}

pub logs_taken : (Large : Type 0) (input left0 left1 : Option (List ℕ)) (what : Report) (d0 d1 : DiskState) (o0 o1 : SinkState) (status : ℕ) → JudgesLogs what d0 d1 left0 left1 o0 o1 status → TakesWithin Large input input left0 left1 status
logs_taken Large input left0 left1 what d0 d1 o0 o1 status told = within_logs Large input left0 left1 status told.bytes told.taken told.few told.long

pub shown_taken : (Large : Type 0) (input left0 left1 : Option (List ℕ)) (what : Marks) (d0 d1 : DiskState) (o0 o1 : SinkState) (status : ℕ) → ShowsLogs what d0 d1 left0 left1 o0 o1 status → TakesWithin Large input input left0 left1 status
shown_taken Large input left0 left1 what d0 d1 o0 o1 status told = within_logs Large input left0 left1 status told.bytes told.taken told.few told.long

pub shown_joins_taken : (Large : Type 0) (input left0 left1 : Option (List ℕ)) (what : Marks) (d0 d1 e0 e1 : DiskState) (o0 o1 : SinkState) (status : ℕ) → ShowsJoinLogs what d0 d1 e0 e1 left0 left1 o0 o1 status
    → TakesWithin Large input input left0 left1 status
shown_joins_taken Large input left0 left1 what d0 d1 e0 e1 o0 o1 status told = within_logs Large input left0 left1 status told.bytes told.taken told.few told.long

pub join_logs_taken : (Large : Type 0) (input left0 left1 : Option (List ℕ)) (what : Report) (d0 d1 e0 e1 : DiskState) (o0 o1 : SinkState) (status : ℕ) → JudgesJoinLogs what d0 d1 e0 e1 left0 left1 o0 o1 status
    → TakesWithin Large input input left0 left1 status
join_logs_taken Large input left0 left1 what d0 d1 e0 e1 o0 o1 status told = within_logs Large input left0 left1 status told.bytes told.taken told.few told.long

pub seal_taken : (input left : Option (List ℕ)) (d0 d1 : DiskState) (o0 o1 : SinkState) (status : ℕ) → Seals d0 d1 o0 o1 status → TakesWithin (IsTooLarge d0) input input left left status
seal_taken input left d0 d1 o0 o1 status told = record {
  script_bytes = [];
  log_bytes = [];
  script_taken = Consumes-nil input;
  logs_taken = Consumes-nil left;
  few = omega arith;
  few_logs = omega arith;
  long = λ long. ⊎_elim (λ l. absurd (omega arith)) (λ l. absurd (omega arith)) long;
  only = λ is. inr (inr (refl, (told.long is).1));
}

pub carried_taken : (input left0 left1 l0 l1 : Option (List ℕ)) (d0 d1 : DiskState) (o0 o1 : SinkState) (status : ℕ) → CarriesLogs d0 d1 left0 left1 l0 l1 o0 o1 status
    → TakesWithin (IsTooLarge d0) input input left0 left1 status
carried_taken input left0 left1 l0 l1 d0 d1 o0 o1 status told = record {
  script_bytes = [];
  log_bytes = told.bytes;
  script_taken = Consumes-nil input;
  logs_taken = told.taken;
  few = omega arith;
  few_logs = told.few;
  long = λ either. ⊎_elim (λ l. absurd (omega arith)) (λ l. told.too_many l) either;
  only = λ is. inr (⊎_elim (λ l. inl l) (λ l. inr (refl, l)) ((told.long is).1));
}

pub proofs_taken : (Large : Type 0) (input left0 left1 : Option (List ℕ)) (root : List ℕ) (o0 o1 : SinkState) (status : ℕ) → ProvesLogs root left0 left1 o0 o1 status → TakesWithin Large input input left0 left1 status
proofs_taken Large input left0 left1 root o0 o1 status told = within_logs Large input left0 left1 status told.bytes told.taken told.few told.long

-- the disk's failure is told only where it failed
pub logs_rose : (left0 left1 : Option (List ℕ)) (what : Report) (d0 d1 : DiskState) (o0 o1 : SinkState) (status : ℕ) → JudgesLogs what d0 d1 left0 left1 o0 o1 status → status ≡ 5 → Rose d0.faults d1.faults
logs_rose left0 left1 what d0 d1 o0 o1 status told is = ((told.judges (omega arith) (omega arith)).disk is).0

pub shown_rose : (left0 left1 : Option (List ℕ)) (what : Marks) (d0 d1 : DiskState) (o0 o1 : SinkState) (status : ℕ) → ShowsLogs what d0 d1 left0 left1 o0 o1 status → status ≡ 5 → Rose d0.faults d1.faults
shown_rose left0 left1 what d0 d1 o0 o1 status told is = ((told.judges (omega arith) (omega arith)).disk is).0

pub shown_joins_rose : (left0 left1 : Option (List ℕ)) (what : Marks) (d0 d1 e0 e1 : DiskState) (o0 o1 : SinkState) (status : ℕ) → ShowsJoinLogs what d0 d1 e0 e1 left0 left1 o0 o1 status → status ≡ 5 → Rose d0.faults d1.faults ⊎ Rose e0.faults e1.faults
shown_joins_rose left0 left1 what d0 d1 e0 e1 o0 o1 status told is = ((told.judges (omega arith) (omega arith)).disk is).0

pub join_logs_rose : (left0 left1 : Option (List ℕ)) (what : Report) (d0 d1 e0 e1 : DiskState) (o0 o1 : SinkState) (status : ℕ) → JudgesJoinLogs what d0 d1 e0 e1 left0 left1 o0 o1 status → status ≡ 5 → Rose d0.faults d1.faults ⊎ Rose e0.faults e1.faults
join_logs_rose left0 left1 what d0 d1 e0 e1 o0 o1 status told is = ((told.judges (omega arith) (omega arith)).disk is).0

pub join_rose : (radius : ℕ) (d0 d1 e0 e1 : DiskState) (o0 o1 v0 v1 : SinkState) (status : ℕ) → Joins radius d0 d1 e0 e1 o0 o1 v0 v1 status → status ≡ 5 → Rose d0.faults d1.faults ⊎ Rose e0.faults e1.faults
join_rose radius d0 d1 e0 e1 o0 o1 v0 v1 status told is = (told.disk is).0

-- a valid space is one of a head
pub valid_space : (metric : MetricName) (dim : ℕ) → 1 ≤ dim → dim ≤ 64 → (is_halved metric ≡ true → dim % 2 ≡ 0) → IsTrue (is_space (kind_of metric) dim)
unfolding is_space
valid_space Hamming dim some few halves = grind (arith)
valid_space L1 dim some few halves = grind (arith)
valid_space Max dim some few halves = grind (arith)
valid_space Kendall dim some few halves = grind (arith)
valid_space Hausdorff dim some few halves = grind (arith)
valid_space MixSum dim some few halves = let even : dim % 2 ≡ 0 = halves refl in grind (arith)
valid_space MixMax dim some few halves = let even : dim % 2 ≡ 0 = halves refl in grind (arith)
valid_space L1Cap dim some few halves = grind (arith)

pub valid_version : IsTrue (is_version 2)
unfolding is_version
valid_version = refl

pub valid_policy : (promote : Promote) (split : Split) → IsTrue (is_policy (promote_number promote) (split_number split))
unfolding is_policy
valid_policy Mrad Hyperplane = refl
valid_policy Mrad Balanced = refl
valid_policy Mmrad Hyperplane = refl
valid_policy Mmrad Balanced = refl

pub valid_limit : (limit : ℕ) → 1 ≤ limit → limit ≤ 16777216 → IsTrue (is_limit limit)
unfolding is_limit
valid_limit limit some few = grind (arith)

-- a generated point is a vector
pub generated_kind : (metric : MetricName) → is_generated metric ≡ true → (kind_of metric ≢ 4) × (kind_of metric ≢ 5)
generated_kind Hamming is = ((λ e. (omega (arith, e))), (λ e. (omega (arith, e))))
generated_kind L1 is = ((λ e. (omega (arith, e))), (λ e. (omega (arith, e))))
generated_kind Max is = ((λ e. (omega (arith, e))), (λ e. (omega (arith, e))))
generated_kind Kendall is = absurd (true≢false (sym is))
generated_kind Hausdorff is = absurd (true≢false (sym is))
generated_kind MixSum is = ((λ e. (omega (arith, e))), (λ e. (omega (arith, e))))
generated_kind MixMax is = ((λ e. (omega (arith, e))), (λ e. (omega (arith, e))))
generated_kind L1Cap is = ((λ e. (omega (arith, e))), (λ e. (omega (arith, e))))

-- the numbers of names
pub named_space : (kind : ℕ) (metric : MetricName) (dim : ℕ) → kind ≡ kind_of metric → 1 ≤ dim → dim ≤ 64 → (is_halved metric ≡ true → dim % 2 ≡ 0) → IsTrue (is_space kind dim)
named_space kind metric dim is some few halves = subst (λ (k : ℕ). IsTrue (is_space k dim)) (sym is) (valid_space metric dim some few halves)

pub named_policy : (a b : ℕ) (promote : Promote) (split : Split) → a ≡ promote_number promote → b ≡ split_number split → IsTrue (is_policy a b)
named_policy a b promote split first second =
    subst (λ (k : ℕ). IsTrue (is_policy k b)) (sym first) (subst (λ (k : ℕ). IsTrue (is_policy (promote_number promote) k)) (sym second) (valid_policy promote split))
