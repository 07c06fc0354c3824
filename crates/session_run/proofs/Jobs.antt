-- What a session on an index leaves and writes, by its status.
use Rattle.std.proofs.Common.{◌≡◌, ◌≢◌, ◌⊎◌, inl, inr, ⊎_elim, ℕ, ◌+◌, ◌^◌, ◌≤◌, Bool, List, [], ◌++◌, Option, Some, None, refl, sym, ◌∙◌, ap, subst, arith, length, length-append}
use Rattle.std.specs.Prelude.{codes, IsTrue, MatchOption}
use Rattle.std.specs.List.{AllByRecursion, concat}
use Rattle.std.specs.Io.KnownBytes.{Appends, Consumes, IsAtEnd}
use Rattle.std.proofs.KnownBytes.{Appends-nil}
use Rattle.std.proofs.lemmas.List.{append-nil}
use Rattle.outside_io.specs.Bytes.{AppendsPrefix, TakesUpTo}
use Rattle.outside_io.specs.Causes.{Rose}
use Rattle.outside_io.specs.Sinks.{SinkState, Tells}
use Rattle.disk_model.specs.Disk.{DiskState, EachImage, IsUnchanged, MayLeave}
use Rattle.disk_model.specs.Moments.{once, joined, started, weakened}
use Rattle.node_page.specs.declared.head.Head.{Head}
use Rattle.node_page.specs.Laws.{FaultIsNotOpen, OneLiveSlot}
use Rattle.node_page.specs.Opening.{OpensTo}
use Rattle.page_store.specs.Files.{IsSoundFile, nodes_in}
use Rattle.job_files.specs.Jobs.{Refuses}
use Rattle.job_files.proofs.Published.{no_index_unsound}
use Rattle.tree_shape.specs.declared.live.Live.{Live}
use Rattle.tree_shape.specs.Tree.{IsSoundTree}
use Rattle.index_core.specs.Answers.{IsSoundOn}
use Rattle.metric_laws.specs.Space.{Space}
use Rattle.index_core.specs.Files.{IsValidFile, nodes_on}
use Rattle.index_core.specs.Index.{OpenIndex, StandsAlone}
use Rattle.index_core.proofs.Published.{holds}
use Rattle.session_run.proofs.Reading.{objects_on}
use Rattle.rows_text.specs.declared.command.Command.{Command}
use Rattle.rows_text.specs.Meaning.{State}
use Rattle.rows_text.specs.Script.{script}
use Rattle.session_run.specs.declared.stop.SessionStop.{SessionStop}
use Rattle.session_run.specs.declared.stop.SessionStop.TheVariants as stop
use Rattle.session_run.specs.Session.{Grew, HasRun, HasStopCause, HoldsState, IsAsking, IsDamageIn, StandsBy, no_cursors, setting_of, state_on}
use Rattle.answer_texts.specs.Answered.{commands_of, framed, logs_of, texts_of}
use Rattle.answer_texts.specs.Asked.{Held, held_in}
use Rattle.answer_texts.specs.Ending.{IsTold, TellsFault}
use Rattle.answer_texts.proofs.Published.{told_behind, disk_ends, input_ends, long_ends, memory_ends, line_alone, disk_told, input_told, long_told, memory_told, none_told}
use Rattle.session_run.specs.Turns.{AreTurns, Turn, answers_of, held_on}
use Rattle.job_files.proofs.Published.{always, read_whole, weaker}
use Rattle.session_run.proofs.Taken.{unfinished}
use Rattle.job_files.specs.Spaces.{space_of}
use Rattle.session_run.specs.Job.{HasEnded, HasFinished, HasRefused, HoldsFront, IsComplete, IsLeft, Leaves, LeavesAll, ReadsFew, ReadsAsked, ReadsScript, RunsOn, RunsAsked, RunsScript, RunsSession, SessionEnds, asked_by, setting_in, state_in}
use Rattle.outside_io.proofs.Published.{rose_before}

module _ (show : Bool) (asked : ℕ → List Command) (head : Head) (live : Live) (file : List ℕ) (disk0 disk1 : DiskState) (out0 out1 out2 log0 log1 : SinkState) where
  abbrev pub state0 : State
  state0 = state_in head live file

  abbrev pub file0 : Held
  file0 = held_in head.dim live file

  -- the line of a fault stands behind the acknowledged replies
  module _ (Left : List Turn → List Command → Type 0) (turns : List Turn) (more : List Command) (line : List ℕ) (whole : asked head.dim ≡ commands_of (answers_of turns) ++ more)
      (are : AreTurns (setting_in head) head state0 file0 turns) (written : Appends out0.written out1.written (concat (texts_of show (answers_of turns)))) (logged : Appends log0.written log1.written (framed (logs_of (answers_of turns))))
      (later : out0.faults ≤ out1.faults) (told : Tells out1 out2 line) (left : Left turns more) where
    told_since : Appends out1.written out2.written line ⊎ (AppendsPrefix out1.written out2.written line × Rose out0.faults out2.faults)
    told_since = elim told [
      | inl all ↦ inl all
      | inr cut ↦ inr (cut.0, rose_before _ _ _ later cut.1)
    ]

    pub with_line : (status : ℕ) →
        ((rest : List ℕ) → IsTold (Rose out0.faults out2.faults) rest line → SessionEnds (Rose out0.faults out2.faults) status head show state0 file0 turns more rest []) → status ≢ 0 →
        RunsOn Left show asked head live file disk1 out0 out2 log0 log1 status
    with_line status ends other =
        let part = told_behind out0.written out1.written out2.written (Rose out0.faults out2.faults) (concat (texts_of show (answers_of turns))) line written told_since in
        record {
          turns = turns;
          more = more;
          rest = part.0;
          log_rest = [];
          whole = whole;
          are = are;
          ends = ends part.0 part.1;
          written = part.2;
          logged = rw (append-nil (framed (logs_of (answers_of turns)))) logged;
          last = λ is. absurd (other is);
          leaves = left;
        }

-- ---- after a session on an opened index

module _ (show : Bool) (asked : ℕ → List Command) (head : Head) (live : Live) (file : List ℕ) (disk0 disk1 : DiskState) (out0 out1 log0 log1 : SinkState) (commands : List Command) (ack : ℕ) (left : Held)
    (script_is : commands ≡ asked head.dim) (later : out0.faults ≤ out1.faults) where
  pub done_runs : HasRun (setting_in head) head show commands (state_in head live file) (held_in head.dim live file) disk0 disk1 out0 out1 log0 log1 ack None left → IsLeft head left disk1 →
      RunsOn (LeavesAll head (state_in head live file) disk0 disk1) show asked head live file disk1 out0 out1 log0 log1 0
  done_runs ran is_left = record {
    turns = ran.turns;
    more = ran.more;
    rest = ran.rest;
    log_rest = ran.log_rest;
    whole = sym script_is ∙ ran.whole;
    are = ran.are;
    ends = record {
      done = λ e. ran.ends;
      input = λ e. absurd (omega arith);
      output = λ e. absurd (omega arith);
      disk = λ e. absurd (omega arith);
      long = λ e. absurd (omega arith);
      memory = λ e. absurd (omega arith);
      unlogged = λ e. ran.ends.2;
      index = λ e. absurd (omega arith);
      undamaged = λ e. absurd (omega arith);
    };
    written = ran.written;
    logged = ran.logged;
    last = λ e. subst (λ (v : Held). IsLeft head v disk1) (ran.last refl) is_left;
    leaves = (ran.moments, ran.remains);
  }

  -- an output failed
  pub cut_runs : HasRun (setting_in head) head show commands (state_in head live file) (held_in head.dim live file) disk0 disk1 out0 out1 log0 log1 ack (Some stop.Sink) left → (status : ℕ) → status ≡ 4 →
      RunsOn (LeavesAll head (state_in head live file) disk0 disk1) show asked head live file disk1 out0 out1 log0 log1 status
  cut_runs ran status is = record {
    turns = ran.turns;
    more = ran.more;
    rest = ran.rest;
    log_rest = ran.log_rest;
    whole = sym script_is ∙ ran.whole;
    are = ran.are;
    ends = record {
      done = λ e. absurd (omega arith);
      input = λ e. absurd (omega arith);
      output = λ e. ran.ends;
      disk = λ e. absurd (omega arith);
      long = λ e. absurd (omega arith);
      memory = λ e. absurd (omega arith);
      unlogged = λ e. absurd (e is);
      index = λ e. absurd (omega arith);
      undamaged = λ e. absurd (omega arith);
    };
    written = ran.written;
    logged = ran.logged;
    last = λ e. absurd (omega arith);
    leaves = (ran.moments, ran.remains);
  }

  module _ (Sound : Type 0) (out2 : SinkState) where
    -- a line is put behind the acknowledged replies
    lined : (why : SessionStop) (line : List ℕ) (ran : HasRun (setting_in head) head show commands (state_in head live file) (held_in head.dim live file) disk0 disk1 out0 out1 log0 log1 ack (Some why) left) →
        (ran.rest ≡ []) × (ran.log_rest ≡ []) → Tells out1 out2 line → (status : ℕ) →
        ((rest : List ℕ) → IsTold (Rose out0.faults out2.faults) rest line → SessionEnds (Rose out0.faults out2.faults) status head show (state_in head live file) (held_in head.dim live file) ran.turns ran.more rest []) → status ≢ 0 →
        RunsOn (LeavesAll head (state_in head live file) disk0 disk1) show asked head live file disk1 out0 out2 log0 log1 status
    lined why line ran nothing told status ends other =
        with_line show asked head live file disk0 disk1 out0 out1 out2 log0 log1 (LeavesAll head (state_in head live file) disk0 disk1) ran.turns ran.more line (sym script_is ∙ ran.whole) ran.are
        (subst (λ (l : List ℕ). Appends out0.written out1.written l) (append-nil (concat (texts_of show (answers_of ran.turns))))
        (subst (λ (rest : List ℕ). Appends out0.written out1.written (concat (texts_of show (answers_of ran.turns)) ++ rest)) nothing.0 ran.written))
        (subst (λ (l : List ℕ). Appends log0.written log1.written l) (append-nil (framed (logs_of (answers_of ran.turns))))
        (subst (λ (rest : List ℕ). Appends log0.written log1.written (framed (logs_of (answers_of ran.turns)) ++ rest)) nothing.1 ran.logged))
        later told (ran.moments, ran.remains) status ends other

    -- it was stopped
    pub stopped_runs : (why : SessionStop) (status : ℕ) → HasRun (setting_in head) head show commands (state_in head live file) (held_in head.dim live file) disk0 disk1 out0 out1 log0 log1 ack (Some why) left →
        HasEnded why out1 out2 status → HasStopCause Sound disk0 disk1 out0 out1 log0 log1 why → Sound →
        RunsOn (LeavesAll head (state_in head live file) disk0 disk1) show asked head live file disk1 out0 out2 log0 log1 status
    stopped_runs stop.Sink status ran ended cause sound = rw ended.1 (cut_runs ran status ended.0)
    stopped_runs stop.Disk status ran ended cause sound =
        lined stop.Disk (codes "fault disk\n") ran ran.ends ended.1 status (λ rest line. disk_ends _ _ ran.more rest (answers_of ran.turns) status ended.0 line) (λ e. absurd (omega (arith, ended.0)))
    stopped_runs stop.Memory status ran ended cause sound =
        lined stop.Memory (codes "fault memory\n") ran ran.ends ended.1 status (λ rest line. memory_ends _ _ ran.more rest (answers_of ran.turns) status ended.0 line) (λ e. absurd (omega (arith, ended.0)))
    stopped_runs (stop.Damaged fault) status ran ended cause sound = absurd (cause.1 sound)

-- why it ended, on any file
pub finished : (Sound : Type 0) (head : Head) (disk0 disk1 : DiskState) (out0 out1 out2 log0 log1 : SinkState) (why : SessionStop) (status : ℕ) → out1.faults ≤ out2.faults → HasEnded why out1 out2 status →
    HasStopCause Sound disk0 disk1 out0 out1 log0 log1 why → StandsBy head disk1 why → disk1.is_known ≡ disk0.is_known → Grew out0 out1 → out0.faults ≤ out1.faults → HasFinished head disk0 disk1 out0 out2 log0 log1 status
finished Sound head disk0 disk1 out0 out1 out2 log0 log1 stop.Sink status later ended cause stands told grew grown = record {
  lines = none_told status out0 out2 (λ e. omega (arith, ended.0, e)) (λ e. omega (arith, ended.0, e)) (λ e. omega (arith, ended.0, e)) (λ e. omega (arith, ended.0, e));
  is_known = told;
  output = λ e. rw ended.1 cause;
  disk = λ e. absurd (omega (arith, ended.0));
  damaged = λ e. absurd (omega (arith, ended.0));
  statuses = inr (inl ended.0);
}
finished Sound head disk0 disk1 out0 out1 out2 log0 log1 stop.Disk status later ended cause stands told grew grown = record {
  lines = disk_told status out0 out2 ended.0 (record { mid = out1; bytes = grew.0; grew = grew.1; later = grown; told = ended.1 });
  is_known = told;
  output = λ e. absurd (omega (arith, ended.0));
  disk = λ e. cause;
  damaged = λ e. absurd (omega (arith, ended.0));
  statuses = inr (inr (inl ended.0));
}
finished Sound head disk0 disk1 out0 out1 out2 log0 log1 stop.Memory status later ended cause stands told grew grown = record {
  lines = memory_told status out0 out2 ended.0 (record { mid = out1; bytes = grew.0; grew = grew.1; later = grown; told = ended.1 });
  is_known = told;
  output = λ e. absurd (omega (arith, ended.0));
  disk = λ e. absurd (omega (arith, ended.0));
  damaged = λ e. absurd (omega (arith, ended.0));
  statuses = inr (inr (inr (inl ended.0)));
}
finished Sound head disk0 disk1 out0 out1 out2 log0 log1 (stop.Damaged fault) status later (inl ended) cause stands told grew grown = record {
  lines = none_told status out0 out2 (λ e. omega (arith, ended.0, e)) (λ e. omega (arith, ended.0, e)) (λ e. omega (arith, ended.0, e)) (λ e. omega (arith, ended.0, e));
  is_known = told;
  output = λ e. absurd (omega (arith, ended.0));
  disk = λ e. absurd (omega (arith, ended.0));
  damaged = λ e. record { fault = fault; is = cause.0; stands = stands; line = record { mid = out1; bytes = grew.0; grew = grew.1; later = grown; told = ended.1 } };
  statuses = inr (inr (inr (inr ended.0)));
}
finished Sound head disk0 disk1 out0 out1 out2 log0 log1 (stop.Damaged fault) status later (inr ended) cause stands told grew grown = record {
  lines = memory_told status out0 out2 ended.0 (record { mid = out1; bytes = grew.0; grew = grew.1; later = grown; told = ended.1 });
  is_known = told;
  output = λ e. absurd (omega (arith, ended.0));
  disk = λ e. absurd (omega (arith, ended.0));
  damaged = λ e. absurd (omega (arith, ended.0));
  statuses = inr (inr (inr (inl ended.0)));
}

-- it was not stopped
pub done_finished : (head : Head) (disk0 disk1 : DiskState) (out0 out1 log0 log1 : SinkState) → disk1.is_known ≡ disk0.is_known → HasFinished head disk0 disk1 out0 out1 log0 log1 0
done_finished head disk0 disk1 out0 out1 log0 log1 told = record {
  is_known = told;
  output = λ e. absurd (omega (arith, e));
  disk = λ e. absurd (omega (arith, e));
  damaged = λ e. absurd (omega (arith, e));
  lines = none_told 0 out0 out1 (λ e. omega (arith, e)) (λ e. omega (arith, e)) (λ e. omega (arith, e)) (λ e. omega (arith, e));
  statuses = inl refl;
}

-- there was no memory for it
pub memory_finished : (head : Head) (disk : DiskState) (out0 out1 log : SinkState) (status : ℕ) → status ≡ 8 → Tells out0 out1 (codes "fault memory\n") → HasFinished head disk disk out0 out1 log log status
memory_finished head disk out0 out1 log status is told = record {
  is_known = refl;
  output = λ e. absurd (omega (arith, e, is));
  disk = λ e. absurd (omega (arith, e, is));
  damaged = λ e. absurd (omega (arith, e, is));
  lines = memory_told status out0 out1 is (line_alone out0 out1 (codes "fault memory\n") told);
  statuses = inr (inr (inr (inl is)));
}

-- ---- on an opened index

is_left : {M : Type 0} (new : OpenIndex M) (disk1 : DiskState) (head : Head) → new.file.head ≡ head → StandsAlone new disk1 → IsTrue disk1.is_known → IsLeft head (held_on new.file disk1) disk1
is_left new disk1 head same alone is_known = subst (λ (h : Head). IsLeft h (held_on new.file disk1) disk1) same (record { opens = alone.stands.opens is_known; nodes = refl; only = alone.only is_known })

module _ {M : Type 0} (show : Bool) (asked : ℕ → List Command) (old new : OpenIndex M) (disk0 disk1 : DiskState) (out0 out1 log0 log1 : SinkState) (commands : List Command) (ack : ℕ)
    (script_is : commands ≡ asked old.file.head.dim) (later : out0.faults ≤ out1.faults) (told : disk1.is_known ≡ disk0.is_known) where
  pub opened_done : (IsSoundOn (space_of old.file.head) old.file disk0 →
      HasRun (setting_of (space_of old.file.head) old.file) old.file.head show commands (state_on old.file disk0 no_cursors) (held_on old.file disk0) disk0 disk1 out0 out1 log0 log1 ack None (held_on new.file disk1)) →
      new.file.head ≡ old.file.head → StandsAlone new disk1 → IsTrue disk0.is_known → IsSoundTree (space_of old.file.head) (nodes_on old.file disk0) old.file.live →
      RunsOn (LeavesAll old.file.head (state_in old.file.head old.file.live disk0.bytes) disk0 disk1) show asked old.file.head old.file.live disk0.bytes disk1 out0 out1 log0 log1 0
  opened_done run same alone is_known sound =
      done_runs show asked old.file.head old.file.live disk0.bytes disk0 disk1 out0 out1 log0 log1 commands ack (held_on new.file disk1) script_is later (run (is_known, sound))
      (is_left new disk1 old.file.head same alone (rw told is_known))

  pub opened_stopped : (out2 : SinkState) (why : SessionStop) (status : ℕ) → (IsSoundOn (space_of old.file.head) old.file disk0 →
      HasRun (setting_of (space_of old.file.head) old.file) old.file.head show commands (state_on old.file disk0 no_cursors) (held_on old.file disk0) disk0 disk1 out0 out1 log0 log1 ack (Some why)
      (held_on new.file disk1)) → HasEnded why out1 out2 status → HasStopCause (IsSoundOn (space_of old.file.head) old.file disk0) disk0 disk1 out0 out1 log0 log1 why →
      IsTrue disk0.is_known → IsSoundTree (space_of old.file.head) (nodes_on old.file disk0) old.file.live →
      RunsOn (LeavesAll old.file.head (state_in old.file.head old.file.live disk0.bytes) disk0 disk1) show asked old.file.head old.file.live disk0.bytes disk1 out0 out2 log0 log1 status
  opened_stopped out2 why status run ended cause is_known sound =
      stopped_runs show asked old.file.head old.file.live disk0.bytes disk0 disk1 out0 out1 log0 log1 commands ack (held_on new.file disk1) script_is later (IsSoundOn (space_of old.file.head) old.file disk0) out2 why status
      (run (is_known, sound)) ended cause (is_known, sound)

module _ {M : Type 0} (s : Space) (show : Bool) (asked : ℕ → List Command) (old new : OpenIndex M) (disk0 disk1 : DiskState) (out0 out1 log0 log1 : SinkState) (commands : List Command) (ack : ℕ) (ended : Option SessionStop)
    (same : s ≡ space_of old.file.head) (script_is : commands ≡ asked old.file.head.dim) (later : out0.faults ≤ out1.faults) (told : disk1.is_known ≡ disk0.is_known)
    (run : IsSoundOn s old.file disk0 →
    HasRun (setting_of s old.file) old.file.head show commands (state_on old.file disk0 no_cursors) (held_on old.file disk0) disk0 disk1 out0 out1 log0 log1 ack ended (held_on new.file disk1)) where
  run_in : (e : Option SessionStop) → ended ≡ e → IsSoundOn (space_of old.file.head) old.file disk0 →
      HasRun (setting_of (space_of old.file.head) old.file) old.file.head show commands (state_on old.file disk0 no_cursors) (held_on old.file disk0) disk0 disk1 out0 out1 log0 log1 ack e (held_on new.file disk1)
  run_in e is =
      subst (λ (o : Option SessionStop). IsSoundOn (space_of old.file.head) old.file disk0 →
      HasRun (setting_of (space_of old.file.head) old.file) old.file.head show commands (state_on old.file disk0 no_cursors) (held_on old.file disk0) disk0 disk1 out0 out1 log0 log1 ack o (held_on new.file disk1)) is
      (subst (λ (x : Space). IsSoundOn x old.file disk0 →
      HasRun (setting_of x old.file) old.file.head show commands (state_on old.file disk0 no_cursors) (held_on old.file disk0) disk0 disk1 out0 out1 log0 log1 ack ended (held_on new.file disk1)) same run)

  pub is_done : ended ≡ None → new.file.head ≡ old.file.head → StandsAlone new disk1 → IsTrue disk0.is_known → IsSoundTree (space_of old.file.head) (nodes_on old.file disk0) old.file.live →
      RunsOn (LeavesAll old.file.head (state_in old.file.head old.file.live disk0.bytes) disk0 disk1) show asked old.file.head old.file.live disk0.bytes disk1 out0 out1 log0 log1 0
  is_done is same_head alone is_known sound = opened_done show asked old new disk0 disk1 out0 out1 log0 log1 commands ack script_is later told (run_in None is) same_head alone is_known sound

  pub is_stopped : (out2 : SinkState) (why : SessionStop) (status : ℕ) → ended ≡ Some why → HasEnded why out1 out2 status →
      MatchOption ended (Unit {0}) (HasStopCause (IsSoundOn s old.file disk0) disk0 disk1 out0 out1 log0 log1) → IsTrue disk0.is_known → IsSoundTree (space_of old.file.head) (nodes_on old.file disk0) old.file.live →
      RunsOn (LeavesAll old.file.head (state_in old.file.head old.file.live disk0.bytes) disk0 disk1) show asked old.file.head old.file.live disk0.bytes disk1 out0 out2 log0 log1 status
  is_stopped out2 why status is end cause is_known sound =
      opened_stopped show asked old new disk0 disk1 out0 out1 log0 log1 commands ack script_is later told out2 why status (run_in (Some why) is) end
      (subst (λ (x : Space). HasStopCause (IsSoundOn x old.file disk0) disk0 disk1 out0 out1 log0 log1 why) same (rw is at cause)) is_known sound

  -- few pages were read
  pub few_read : ended ≡ None → IsTrue disk0.is_known → IsSoundTree (space_of old.file.head) (nodes_on old.file disk0) old.file.live → AllByRecursion IsAsking (asked old.file.head.dim) → ReadsFew 0 disk0 disk1 log0 log1
  few_read is is_known sound asks = record {
    logs = logs_of (answers_of ran.turns);
    logged = subst (λ (l : List ℕ). Appends log0.written log1.written l) (append-nil (framed (logs_of (answers_of ran.turns))))
        (subst (λ (rest : List ℕ). Appends log0.written log1.written (framed (logs_of (answers_of ran.turns)) ++ rest)) ran.ends.2 ran.logged);
    reads = let few = ran.reads refl (subst (AllByRecursion IsAsking) (sym script_is) asks) in omega (arith, few);
  }
    where
      ran : HasRun (setting_of (space_of old.file.head) old.file) old.file.head show commands (state_on old.file disk0 no_cursors) (held_on old.file disk0) disk0 disk1 out0 out1 log0 log1 ack None (held_on new.file disk1)
      ran = run_in None is (is_known, sound)

-- a session that was stopped is not done
pub not_done : (why : SessionStop) (out0 out1 : SinkState) (status : ℕ) → HasEnded why out0 out1 status → status ≢ 0
not_done stop.Sink out0 out1 status ended is = omega (arith, ended.0, is)
not_done stop.Disk out0 out1 status ended is = omega (arith, ended.0, is)
not_done stop.Memory out0 out1 status ended is = omega (arith, ended.0, is)
not_done (stop.Damaged fault) out0 out1 status (inl ended) is = omega (arith, ended.0, is)
not_done (stop.Damaged fault) out0 out1 status (inr ended) is = omega (arith, ended.0, is)

-- what a crash leaves that comes before the first command
pub held : {M : Type 0} (index : OpenIndex M) (disk : DiskState) (dimension : ℕ) → dimension ≡ index.file.head.dim → IsValidFile dimension index.file → StandsAlone index disk → IsTrue disk.is_known →
    IsSoundTree (space_of index.file.head) (nodes_on index.file disk) index.file.live → (image : List ℕ) → MayLeave disk image →
    HoldsState (space_of index.file.head) index.file.head (state_in index.file.head index.file.live disk.bytes) image
held index disk dimension same valid alone is_known sound image left =
    subst (λ (file : List ℕ). HoldsState (space_of index.file.head) index.file.head (state_in index.file.head index.file.live disk.bytes) file) (sym (alone.only is_known image left))
    (holds (space_of index.file.head) index.file disk _ _ (subst (λ (w : ℕ). IsValidFile w index.file) same valid) alone.stands (objects_on (space_of index.file.head) index.file disk (is_known, sound)))

-- nothing was done: the line of a fault is all that was put
pub unread : (show : Bool) (asked : ℕ → List Command) (head : Head) (live : Live) (file : List ℕ) (disk0 disk1 : DiskState) (out0 out1 log : SinkState) (line : List ℕ) (Left : List Turn → List Command → Type 0) →
    Tells out0 out1 line → Left [] (asked head.dim) → (status : ℕ) →
    ((rest : List ℕ) → IsTold (Rose out0.faults out1.faults) rest line → SessionEnds (Rose out0.faults out1.faults) status head show (state_in head live file) (held_in head.dim live file) [] (asked head.dim) rest []) →
    status ≢ 0 → RunsOn Left show asked head live file disk1 out0 out1 log log status
unread show asked head live file disk0 disk1 out0 out1 log line Left told left status ends other =
    with_line show asked head live file disk0 disk1 out0 out0 out1 log log Left [] (asked head.dim) line refl tt (Appends-nil out0.written) (Appends-nil log.written) (omega arith) told left status ends other

-- a session that did nothing left the objects that were there
pub nothing_left : (head : Head) (live : Live) (file : List ℕ) (disk : DiskState) (more : List Command) → ((image : List ℕ) → MayLeave disk image → HoldsState (space_of head) head (state_in head live file) image) →
    LeavesAll head (state_in head live file) disk disk [] more
nothing_left head live file disk more holds = (started disk _ (λ image left. inl (holds image left)), λ image left. inl (holds image left))

-- ---- since the opening

-- what is left is said in another way
pub said_of : {L K : List Turn → List Command → Type 0} (show : Bool) (asked : ℕ → List Command) (head : Head) (live : Live) (file : List ℕ) (disk1 : DiskState) (out0 out1 log0 log1 : SinkState) (status : ℕ) →
    ((turns : List Turn) (more : List Command) → L turns more → K turns more) → RunsOn L show asked head live file disk1 out0 out1 log0 log1 status → RunsOn K show asked head live file disk1 out0 out1 log0 log1 status
said_of show asked head live file disk1 out0 out1 log0 log1 status run ran = record {
  turns = ran.turns;
  more = ran.more;
  rest = ran.rest;
  log_rest = ran.log_rest;
  whole = ran.whole;
  are = ran.are;
  ends = ran.ends;
  written = ran.written;
  logged = ran.logged;
  last = ran.last;
  leaves = run ran.turns ran.more ran.leaves;
}

pub left_since : (head : Head) (state : State) (disk0 disk1 disk2 : DiskState) → EachImage disk0 disk1 (MayLeave disk0) → (turns : List Turn) (more : List Command) → LeavesAll head state disk1 disk2 turns more →
    Leaves head state disk0 disk2 turns more
left_since head state disk0 disk1 disk2 opening turns more left = inr (once disk0 disk1 disk2 (HoldsFront head state turns more) opening left.0, left.1)

-- ---- opening

-- what was there before the opening
pub opening : (disk0 disk1 disk2 : DiskState) → IsUnchanged disk0 disk1 → EachImage disk1 disk2 (MayLeave disk1) → EachImage disk0 disk2 (MayLeave disk0)
opening disk0 disk1 disk2 same time = joined disk0 disk1 disk2 (MayLeave disk0) same.time (weakened disk1 disk2 (MayLeave disk1) (MayLeave disk0) time (λ image left. (same.same_images image).0 left))

-- the index is not opened at all
pub refused_runs : FaultIsNotOpen → OneLiveSlot → (show : Bool) (asked : ℕ → List Command) (disk0 disk1 : DiskState) (out0 out1 log : SinkState) (status : ℕ) → IsUnchanged disk0 disk1 → Refuses disk0 disk1 out0 out1 status →
    RunsAsked show asked disk0 disk1 out0 out1 log log status
refused_runs faults one show asked disk0 disk1 out0 out1 log status same refuses is_known head live sound = elim refuses.statuses [
  | inl five ↦
      unread show asked head live disk0.bytes disk0 disk1 out0 out1 log (codes "fault disk\n") (Leaves head (state_in head live disk0.bytes) disk0 disk1) (refuses.disk five).1 (inl (refl, same.time)) status
      (λ rest line. disk_ends (Rose out0.faults out1.faults) _ (asked head.dim) rest [] status five line) (λ e. absurd (omega arith))
  | inr six ↦ let named = refuses.not_index six in absurd (no_index_unsound faults one disk0.bytes named.0 (named.2 is_known) head live sound)
]

pub refused_ends : (disk0 disk1 : DiskState) (out0 out1 log : SinkState) (status : ℕ) → Refuses disk0 disk1 out0 out1 status → HasRefused disk0 disk1 out0 out1 log log status
refused_ends disk0 disk1 out0 out1 log status refuses = elim refuses.statuses [
  | inl five ↦ record {
    output = λ e. absurd (omega (arith, five, e));
    disk = λ e. (refuses.disk five).0;
    not_index = λ e. absurd (omega (arith, five, e));
    damaged = λ e. absurd (omega (arith, five, e));
    lines = disk_told status out0 out1 five (line_alone out0 out1 (codes "fault disk\n") (refuses.disk five).1);
    index = λ these. absurd (unfinished status 5 five (λ e. omega (arith, e)) (λ e. omega (arith, e)) these);
    statuses = inr (inr (inl five));
  }
  | inr six ↦ record {
    output = λ e. absurd (omega (arith, six, e));
    disk = λ e. absurd (omega (arith, six, e));
    not_index = refuses.not_index;
    damaged = λ e. absurd (omega (arith, six, e));
    lines = none_told status out0 out1 (λ e. omega (arith, six, e)) (λ e. omega (arith, six, e)) (λ e. omega (arith, six, e)) (λ e. omega (arith, six, e));
    index = λ these. absurd (unfinished status 6 six (λ e. omega (arith, e)) (λ e. omega (arith, e)) these);
    statuses = inr (inr (inr (inl six)));
  }
]

pub memory_ends_it : (disk0 disk1 : DiskState) (out0 out1 log : SinkState) (status : ℕ) → status ≡ 8 → Tells out0 out1 (codes "fault memory\n") → HasRefused disk0 disk1 out0 out1 log log status
memory_ends_it disk0 disk1 out0 out1 log status is told = record {
  output = λ e. absurd (omega (arith, is, e));
  disk = λ e. absurd (omega (arith, is, e));
  not_index = λ e. absurd (omega (arith, is, e));
  damaged = λ e. absurd (omega (arith, is, e));
  lines = memory_told status out0 out1 is (line_alone out0 out1 (codes "fault memory\n") told);
  index = λ these. absurd (unfinished status 8 is (λ e. omega (arith, e)) (λ e. omega (arith, e)) these);
  statuses = inr (inr (inr (inr (inl is))));
}

pub disk_ends_it : (disk0 disk1 : DiskState) (out0 out1 log : SinkState) (status : ℕ) → status ≡ 5 → Rose disk0.faults disk1.faults → Tells out0 out1 (codes "fault disk\n") → HasRefused disk0 disk1 out0 out1 log log status
disk_ends_it disk0 disk1 out0 out1 log status is rose told = record {
  output = λ e. absurd (omega (arith, is, e));
  disk = λ e. rose;
  not_index = λ e. absurd (omega (arith, is, e));
  damaged = λ e. absurd (omega (arith, is, e));
  lines = disk_told status out0 out1 is (line_alone out0 out1 (codes "fault disk\n") told);
  index = λ these. absurd (unfinished status 5 is (λ e. omega (arith, e)) (λ e. omega (arith, e)) these);
  statuses = inr (inr (inl is));
}

-- a session that is refused while it opens the index puts only a line
pub memory_runs : (show : Bool) (asked : ℕ → List Command) (disk0 disk1 disk2 : DiskState) (out0 out1 log : SinkState) (status : ℕ) → IsUnchanged disk0 disk1 → EachImage disk1 disk2 (MayLeave disk1) → status ≡ 8 →
    Tells out0 out1 (codes "fault memory\n") → RunsAsked show asked disk0 disk2 out0 out1 log log status
memory_runs show asked disk0 disk1 disk2 out0 out1 log status same time eight told is_known head live sound =
    unread show asked head live disk0.bytes disk0 disk2 out0 out1 log (codes "fault memory\n") (Leaves head (state_in head live disk0.bytes) disk0 disk2) told (inl (refl, opening disk0 disk1 disk2 same time)) status
    (λ rest line. memory_ends (Rose out0.faults out1.faults) _ (asked head.dim) rest [] status eight line) (λ e. absurd (omega arith))

pub disk_runs : (show : Bool) (asked : ℕ → List Command) (disk0 disk1 disk2 : DiskState) (out0 out1 log : SinkState) (status : ℕ) → IsUnchanged disk0 disk1 → EachImage disk1 disk2 (MayLeave disk1) → status ≡ 5 →
    Tells out0 out1 (codes "fault disk\n") → RunsAsked show asked disk0 disk2 out0 out1 log log status
disk_runs show asked disk0 disk1 disk2 out0 out1 log status same time five told is_known head live sound =
    unread show asked head live disk0.bytes disk0 disk2 out0 out1 log (codes "fault disk\n") (Leaves head (state_in head live disk0.bytes) disk0 disk2) told (inl (refl, opening disk0 disk1 disk2 same time)) status
    (λ rest line. disk_ends (Rose out0.faults out1.faults) _ (asked head.dim) rest [] status five line) (λ e. absurd (omega arith))

-- the index that was opened is that of the file as it was before
module _ {M : Type 0} (one : OneLiveSlot) (index : OpenIndex M) (opened : Head × Live) (disk0 disk1 disk2 : DiskState) (same : IsUnchanged disk0 disk1) (bytes_same : disk2.bytes ≡ disk1.bytes) (known_same : disk2.is_known ≡ disk1.is_known)
    (reopens : IsTrue disk2.is_known → OpensTo disk2.bytes index.file.head index.file.live) (opens : IsTrue disk0.is_known → OpensTo disk0.bytes opened.0 opened.1) (is_known : IsTrue disk0.is_known)
    (head : Head) (live : Live) (is : OpensTo disk0.bytes head live) where
  bytes_are : disk2.bytes ≡ disk0.bytes
  bytes_are = bytes_same ∙ same.same_bytes

  told_on : IsTrue disk2.is_known
  told_on = rw (known_same, same.same_known) is_known

  opens_here : OpensTo disk0.bytes index.file.head index.file.live
  opens_here = subst (λ (b : List ℕ). OpensTo b index.file.head index.file.live) bytes_are (reopens told_on)

  pub head_is : index.file.head ≡ head
  head_is = (one disk0.bytes index.file.head head index.file.live live opens_here is).0

  live_is : index.file.live ≡ live
  live_is = (one disk0.bytes index.file.head head index.file.live live opens_here is).1

  opened_is : opened.0 ≡ index.file.head
  opened_is = (one disk0.bytes opened.0 index.file.head opened.1 index.file.live (opens is_known) opens_here).0

-- a session on the opened index, said of the file as it was before
module _ {M : Type 0} (kind_of dim_of : M → ℕ) (one : OneLiveSlot) (show : Bool) (asked : ℕ → List Command) (index : OpenIndex M) (opened : Head × Live) (disk0 disk1 disk2 disk3 : DiskState) (out0 out1 log0 log1 : SinkState) (status : ℕ)
    (same : IsUnchanged disk0 disk1) (time : EachImage disk1 disk2 (MayLeave disk1)) (bytes_same : disk2.bytes ≡ disk1.bytes) (known_same : disk2.is_known ≡ disk1.is_known)
    (reopens : IsTrue disk2.is_known → OpensTo disk2.bytes index.file.head index.file.live) (opens : IsTrue disk0.is_known → OpensTo disk0.bytes opened.0 opened.1)
    (kind : kind_of index.file.metric ≡ opened.0.kind) (dim : dim_of index.file.metric ≡ opened.0.dim) where
  -- what holds for the opened index holds for the file
  said_before : (Asks : ℕ → Type 0) (Said : Head → Live → List ℕ → Type 0) (head : Head) (live : Live) → IsTrue disk0.is_known → IsSoundFile (space_of head) head live disk0.bytes → Asks head.dim →
      (IsTrue disk2.is_known → kind_of index.file.metric ≡ index.file.head.kind → dim_of index.file.metric ≡ index.file.head.dim → IsSoundTree (space_of index.file.head) (nodes_on index.file disk2) index.file.live →
      Asks index.file.head.dim → Said index.file.head index.file.live disk2.bytes) → Said head live disk0.bytes
  said_before Asks Said head live is_known sound asks run =
      moved index.file.head index.file.live disk2.bytes head_here live_here (bytes_are one index opened disk0 disk1 disk2 same bytes_same known_same reopens opens is_known head live sound.opens)
      (run (told_on one index opened disk0 disk1 disk2 same bytes_same known_same reopens opens is_known head live sound.opens) (kind ∙ ap (λ (h : Head). h.kind) opened_here) (dim ∙ ap (λ (h : Head). h.dim) opened_here))
    where
      head_here : index.file.head ≡ head
      head_here = head_is one index opened disk0 disk1 disk2 same bytes_same known_same reopens opens is_known head live sound.opens

      live_here : index.file.live ≡ live
      live_here = live_is one index opened disk0 disk1 disk2 same bytes_same known_same reopens opens is_known head live sound.opens

      opened_here : opened.0 ≡ index.file.head
      opened_here = opened_is one index opened disk0 disk1 disk2 same bytes_same known_same reopens opens is_known head live sound.opens

      moved : (h : Head) (l : Live) (f : List ℕ) → h ≡ head → l ≡ live → f ≡ disk0.bytes → (IsSoundTree (space_of h) (nodes_in h.dim l f) l → Asks h.dim → Said h l f) → Said head live disk0.bytes
      moved h l f hs ls fs go =
          (subst (λ (x : Head). IsSoundTree (space_of x) (nodes_in x.dim live disk0.bytes) live → Asks x.dim → Said x live disk0.bytes) hs
          (subst (λ (x : Live). IsSoundTree (space_of h) (nodes_in h.dim x disk0.bytes) x → Asks h.dim → Said h x disk0.bytes) ls
          (subst (λ (x : List ℕ). IsSoundTree (space_of h) (nodes_in h.dim l x) l → Asks h.dim → Said h l x) fs go))) sound.tree asks

  pub since_opening :
      (IsTrue disk2.is_known → kind_of index.file.metric ≡ index.file.head.kind → dim_of index.file.metric ≡ index.file.head.dim → IsSoundTree (space_of index.file.head) (nodes_on index.file disk2) index.file.live →
      RunsOn (LeavesAll index.file.head (state_in index.file.head index.file.live disk2.bytes) disk2 disk3) show asked index.file.head index.file.live disk2.bytes disk3 out0 out1 log0 log1 status) →
      RunsAsked show asked disk0 disk3 out0 out1 log0 log1 status
  since_opening run is_known head live sound =
      said_of show asked head live disk0.bytes disk3 out0 out1 log0 log1 status (λ turns more left. left_since head (state_in head live disk0.bytes) disk0 disk2 disk3 (opening disk0 disk1 disk2 same time) turns more left)
      (said_before (λ dim. Unit {0}) (λ h l f. RunsOn (LeavesAll h (state_in h l f) disk2 disk3) show asked h l f disk3 out0 out1 log0 log1 status) head live is_known sound tt
      (λ told is_kind is_dim tree asks. run told is_kind is_dim tree))

  pub reads_since : disk1.reads ≤ disk0.reads + 3 → disk2.reads ≡ disk1.reads →
      (status ≡ 0 → IsTrue disk2.is_known → kind_of index.file.metric ≡ index.file.head.kind → dim_of index.file.metric ≡ index.file.head.dim → IsSoundTree (space_of index.file.head) (nodes_on index.file disk2) index.file.live →
      AllByRecursion IsAsking (asked index.file.head.dim) → ReadsFew 0 disk2 disk3 log0 log1) → ReadsAsked asked disk0 disk3 log0 log1 status
  reads_since first second run zero is_known head live sound asks =
      let few = said_before (λ dim. AllByRecursion IsAsking (asked dim)) (λ h l f. ReadsFew 0 disk2 disk3 log0 log1) head live is_known sound asks (run zero) in
      record { logs = few.logs; logged = few.logged; reads = let r = few.reads in omega (arith, first, second, r) }

-- what ended it
pub refused_of : (here : Head) (opened : Head × Live) (disk0 disk1 disk2 : DiskState) (out0 out1 log0 log1 : SinkState) (status : ℕ) → disk0.faults ≤ disk1.faults → disk1.is_known ≡ disk0.is_known →
    (IsTrue disk0.is_known → OpensTo disk0.bytes opened.0 opened.1) → opened.0.version ≡ 2 → (IsTrue disk0.is_known → (head : Head) (live : Live) → OpensTo disk0.bytes head live → here ≡ head) → HasFinished here disk1 disk2 out0 out1 log0 log1 status → HasRefused disk0 disk2 out0 out1 log0 log1 status
refused_of here opened disk0 disk1 disk2 out0 out1 log0 log1 status later same_known opens version same_head ended = record {
  output = ended.output;
  disk = λ is. rose_before _ _ _ later (ended.disk is);
  not_index = λ is. absurd (six is ended.statuses);
  damaged = λ is. let damage = ended.damaged is in record {
    fault = damage.fault;
    is = damage.is;
    stands = λ is_known head live opens. subst (λ (h : Head). IsDamageIn h disk2.bytes damage.fault) (same_head is_known head live opens) (damage.stands (rw (ended.is_known, same_known) is_known));
    line = damage.line;
  };
  lines = ended.lines;
  index = λ these is_known. (opened.0, opened.1, opens is_known, version);
  statuses = wider ended.statuses;
}
  where
    six : status ≡ 6 → (status ≡ 0) ⊎ ((status ≡ 4) ⊎ ((status ≡ 5) ⊎ ((status ≡ 8) ⊎ (status ≡ 9)))) → ⊥
    six is (inl e) = omega arith
    six is (inr (inl e)) = omega arith
    six is (inr (inr (inl e))) = omega arith
    six is (inr (inr (inr (inl e)))) = omega arith
    six is (inr (inr (inr (inr e)))) = omega arith

    wider : (status ≡ 0) ⊎ ((status ≡ 4) ⊎ ((status ≡ 5) ⊎ ((status ≡ 8) ⊎ (status ≡ 9)))) → (status ≡ 0) ⊎ ((status ≡ 4) ⊎ ((status ≡ 5) ⊎ ((status ≡ 6) ⊎ ((status ≡ 8) ⊎ (status ≡ 9)))))
    wider (inl e) = inl e
    wider (inr (inl e)) = inr (inl e)
    wider (inr (inr (inl e))) = inr (inr (inl e))
    wider (inr (inr (inr (inl e)))) = inr (inr (inr (inr (inl e))))
    wider (inr (inr (inr (inr e)))) = inr (inr (inr (inr (inr e))))

-- ---- reading the script

-- the script was not read: the line of a fault is all that was put
pub unread_session : (show : Bool) (input : Option (List ℕ)) (disk : DiskState) (out0 out1 log : SinkState) (status : ℕ) (line : List ℕ) → Tells out0 out1 line → status ≢ 0 → status ≢ 5 → status ≢ 6 → status ≢ 9 → TellsFault status out0 out1 →
    ((bytes : List ℕ) (head : Head) (live : Live) (rest : List ℕ) → IsTold (Rose out0.faults out1.faults) rest line →
    SessionEnds (Rose out0.faults out1.faults) status head show (state_in head live disk.bytes) (held_in head.dim live disk.bytes) [] (script head.dim bytes) rest []) →
    RunsSession show input disk disk out0 out1 log log status
unread_session show input disk out0 out1 log status line told zero five six nine lines ends = record {
  runs = always input _ (λ bytes is_known head live sound.
      unread show (asked_by bytes) head live disk.bytes disk disk out0 out1 log line (Leaves head (state_in head live disk.bytes) disk disk) told (inl (refl, started disk (MayLeave disk) (λ image left. left))) status
      (λ rest l. ends bytes head live rest l) zero);
  reads = always input _ (λ bytes is. absurd (zero is));
  disk = λ is. absurd (five is);
  not_index = λ is. absurd (six is);
  damaged = λ is. absurd (nine is);
  lines = lines;
  index = λ these. absurd (unfinished status status refl zero nine these);
}

pub input_session : (show : Bool) (input : Option (List ℕ)) (disk : DiskState) (out0 out1 log : SinkState) (status : ℕ) → status ≡ 3 → Tells out0 out1 (codes "fault input\n") → RunsSession show input disk disk out0 out1 log log status
input_session show input disk out0 out1 log status is told =
    unread_session show input disk out0 out1 log status (codes "fault input\n") told (λ e. absurd (omega arith)) (λ e. absurd (omega arith)) (λ e. absurd (omega arith)) (λ e. absurd (omega arith))
    (input_told status out0 out1 is (line_alone out0 out1 (codes "fault input\n") told))
    (λ bytes head live rest line. input_ends (Rose out0.faults out1.faults) _ (script head.dim bytes) rest status is line)

pub long_session : (show : Bool) (input : Option (List ℕ)) (disk : DiskState) (out0 out1 log : SinkState) (status : ℕ) → status ≡ 7 → Tells out0 out1 (codes "fault long\n") → RunsSession show input disk disk out0 out1 log log status
long_session show input disk out0 out1 log status is told =
    unread_session show input disk out0 out1 log status (codes "fault long\n") told (λ e. absurd (omega arith)) (λ e. absurd (omega arith)) (λ e. absurd (omega arith)) (λ e. absurd (omega arith))
    (long_told status out0 out1 is (line_alone out0 out1 (codes "fault long\n") told))
    (λ bytes head live rest line. long_ends (Rose out0.faults out1.faults) _ (script head.dim bytes) rest status is line)

pub memory_session : (show : Bool) (input : Option (List ℕ)) (disk : DiskState) (out0 out1 log : SinkState) (status : ℕ) → status ≡ 8 → Tells out0 out1 (codes "fault memory\n") → RunsSession show input disk disk out0 out1 log log status
memory_session show input disk out0 out1 log status is told =
    unread_session show input disk out0 out1 log status (codes "fault memory\n") told (λ e. absurd (omega arith)) (λ e. absurd (omega arith)) (λ e. absurd (omega arith)) (λ e. absurd (omega arith))
    (memory_told status out0 out1 is (line_alone out0 out1 (codes "fault memory\n") told))
    (λ bytes head live rest line. memory_ends (Rose out0.faults out1.faults) _ (script head.dim bytes) rest [] status is line)

-- the script was not read, for one of the three reasons
pub not_read_session : {A B C : Type 0} → (show : Bool) (input : Option (List ℕ)) (disk : DiskState) (out0 out1 log : SinkState) (status : ℕ) → (status ≡ 3 → A × Tells out0 out1 (codes "fault input\n")) → (status ≡ 7 → B × Tells out0 out1 (codes "fault long\n"))
    → (status ≡ 8 → C × Tells out0 out1 (codes "fault memory\n")) → (status ≡ 3) ⊎ ((status ≡ 7) ⊎ (status ≡ 8))
    → RunsSession show input disk disk out0 out1 log log status
not_read_session show input disk out0 out1 log status failed long memory statuses =
    ⊎_elim (λ is. input_session show input disk out0 out1 log status is (failed is).1)
    (λ rest. ⊎_elim (λ is. long_session show input disk out0 out1 log status is (long is).1) (λ is. memory_session show input disk out0 out1 log status is (memory is).1) rest) statuses

-- then with no fault of the source it is too long, unless memory ran out
pub unread_complete : (input left : Option (List ℕ)) (disk : DiskState) (Failed Others Long : Type 0) (status : ℕ) → TakesUpTo (2 ^ 26) input left Long
    → (status ≡ 3 → Failed) → (status ≡ 7 → Long) → (status ≡ 3) ⊎ ((status ≡ 7) ⊎ (status ≡ 8)) → IsComplete input disk (Failed ⊎ Others) status
unread_complete None left disk Failed Others Long status takes failed long statuses = tt
unread_complete (Some bytes) None disk Failed Others Long status takes failed long statuses = absurd takes.taken
unread_complete (Some bytes) (Some rest) disk Failed Others Long status takes failed long statuses = λ few is_known head live sound no. elim statuses [
  | inl is ↦ absurd (no (inl (failed is)))
  | inr more ↦ elim more [
    | inl is ↦ absurd (let most : ⊥ = omega (arith, takes.long.0 (long is), few, ap length takes.taken, length-append takes.bytes rest) in most)
    | inr is ↦ inr is
  ]
]

-- ---- a script that was read whole

pub ran_session : (show : Bool) (input rest : Option (List ℕ)) (bytes read : List ℕ) (disk0 disk1 : DiskState) (out0 out1 log0 log1 : SinkState) (status : ℕ) → Consumes input rest bytes → IsAtEnd rest → read ≡ bytes →
    RunsScript show read disk0 disk1 out0 out1 log0 log1 status → ReadsScript read disk0 disk1 log0 log1 status → HasRefused disk0 disk1 out0 out1 log0 log1 status →
    RunsSession show input disk0 disk1 out0 out1 log0 log1 status
ran_session show input rest bytes read disk0 disk1 out0 out1 log0 log1 status taken end same runs reads refused = record {
  runs = weaker input (λ xs. bytes ≡ xs) (λ xs. RunsScript show xs disk0 disk1 out0 out1 log0 log1 status)
      (λ xs is. subst (λ (b : List ℕ). RunsScript show b disk0 disk1 out0 out1 log0 log1 status) (same ∙ is) runs) (read_whole input rest bytes taken end);
  reads = weaker input (λ xs. bytes ≡ xs) (λ xs. ReadsScript xs disk0 disk1 log0 log1 status)
      (λ xs is. subst (λ (b : List ℕ). ReadsScript b disk0 disk1 log0 log1 status) (same ∙ is) reads) (read_whole input rest bytes taken end);
  disk = refused.disk;
  not_index = refused.not_index;
  damaged = refused.damaged;
  lines = refused.lines;
  index = refused.index;
}

-- the session is done, unless memory ran out
pub ran_complete : (show : Bool) (input : Option (List ℕ)) (disk0 disk1 : DiskState) (out0 out1 log0 log1 : SinkState) (status : ℕ) (Input : Type 0) → RunsSession show input disk0 disk1 out0 out1 log0 log1 status →
    HasRefused disk0 disk1 out0 out1 log0 log1 status →
    IsComplete input disk0 (Input ⊎ (Rose disk0.faults disk1.faults ⊎ (Rose out0.faults out1.faults ⊎ Rose log0.faults log1.faults))) status
ran_complete show None disk0 disk1 out0 out1 log0 log1 status Input runs refused = tt
ran_complete show (Some bytes) disk0 disk1 out0 out1 log0 log1 status Input runs refused = λ few is_known head live sound no. elim refused.statuses [
  | inl zero ↦ inl zero
  | inr more ↦ elim more [
    | inl is ↦ absurd (no (inr (inr (refused.output is))))
    | inr more ↦ elim more [
      | inl is ↦ absurd (no (inr (inl (refused.disk is))))
      | inr more ↦ elim more [
        | inl is ↦ absurd ((runs.runs is_known head live sound).ends.index is)
        | inr more ↦ elim more [
          | inl is ↦ inr is
          | inr is ↦ absurd ((runs.runs is_known head live sound).ends.undamaged is)
        ]
      ]
    ]
  ]
]
