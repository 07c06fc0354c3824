-- A command whose log and reply are written.
use Rattle.std.proofs.Common.{◌≡◌, ◌⊎◌, ℕ, ◌≤◌, Bool, true, false, List, [], inl, inr, refl, sym, ap, subst, ◌∙◌, arith, Option, Some, None, Ok, Err}
use Rattle.std.specs.Io.KnownBytes.{Appends}
use Rattle.std.proofs.KnownBytes.{Appends-nil}
use Rattle.outside_io.specs.Bytes.{AppendsPrefix}
use Rattle.metric_laws.specs.Space.{Space}
use Rattle.outside_io.specs.Causes.{Rose}
use Rattle.outside_io.specs.Sinks.{SinkState}
use Rattle.disk_model.specs.Disk.{DiskState, EachImage}
use Rattle.disk_model.specs.Moments.{weakened}
use Rattle.rows_text.specs.declared.command.Command.{Command}
use Rattle.rows_text.specs.declared.refusal.Refusal.{Refusal}
use Rattle.rows_text.specs.Meaning.{State, Step, accepts, hindered, refused, step}
use Rattle.rows_text.specs.Texts.{text}
use Rattle.plain_scan.specs.OpenCursors.{OpenCursors}
use Rattle.log_model.specs.declared.logs.Log.{Log}
use Rattle.answer_texts.specs.Answered.{framed, if_any}
use Rattle.answer_texts.specs.Put.{IsCut}
use Rattle.index_core.specs.Index.{OpenIndex}
use Rattle.session_run.specs.declared.answer.Answer.{Answer}
use Rattle.session_run.specs.declared.pinned.PinnedCursors.{PinnedCursors}
use Rattle.session_run.specs.declared.stop.SessionStop.{SessionStop}
use Rattle.session_run.specs.declared.stop.SessionStop.TheVariants as stop
use Rattle.session_run.specs.Pinned.{CanGoOn}
use Rattle.session_run.specs.Session.{Grew, HasStopCause, HoldsState, setting_of, state_on}
use Rattle.session_run.specs.Steps.{HasCarriedOut, HasStepCause, HasTurned, HoldsEither, HoldsOne, IsStoppedAt, IsTaken}

-- a step has the state that is meant, or the one before
either_state : (why : Option Refusal) (state : State) (done meant : Step) → hindered why state done ≡ meant → (meant.state ≡ done.state) ⊎ (meant.state ≡ state)
either_state None state done meant is = inl (ap (λ (d : Step). d.state) (sym is))
either_state (Some why) state done meant is = by_reply (accepts done.reply) refl
  where
    by_reply : (b : Bool) → accepts done.reply ≡ b → (meant.state ≡ done.state) ⊎ (meant.state ≡ state)
    by_reply true e = let same : refused state why ≡ meant = rw e at is in inr (ap (λ (d : Step). d.state) (sym same))
    by_reply false e = let same : done ≡ meant = rw e at is in inl (ap (λ (d : Step). d.state) (sym same))

-- ---- what is put

grew_none : (out : SinkState) → Grew out out
grew_none out = ([], Appends-nil out.written)

front_grew : (old new : Option (List ℕ)) (bytes : List ℕ) → AppendsPrefix old new bytes → (front : List ℕ) × Appends old new front
front_grew None new bytes is = ([], tt)
front_grew (Some xs) None bytes is = absurd is
front_grew (Some xs) (Some ys) bytes is = (is.0, is.3)

cut_grew : (out0 out1 log0 log1 : SinkState) (reply frame : List ℕ) → IsCut out0 out1 log0 log1 reply frame → Grew out0 out1 × Grew log0 log1
cut_grew out0 out1 log0 log1 reply frame (inl cut) = (subst (λ (o : SinkState). Grew out0 o) (sym cut.0) (grew_none out0), front_grew log0.written log1.written frame cut.1)
cut_grew out0 out1 log0 log1 reply frame (inr cut) = (front_grew out0.written out1.written reply cut.0, (frame, cut.1))

module _ {M : Type 0} (s : Space) (show : Bool) (old new : OpenIndex M) (pinned0 pinned1 : PinnedCursors) (before after : DiskState) (c : Command) where
  taken_moments : (opened cursors : OpenCursors) (a : Answer) → IsTaken s show old.file new.file opened cursors before after c a → EachImage before after (HoldsEither s old.file before opened c)
  taken_moments opened cursors a taken =
      weakened before after (HoldsOne s old.file.head (state_on old.file before opened) taken.turn.state) (HoldsEither s old.file before opened c) taken.moments (λ image holds. elim holds [
        | inl was ↦ inl was
        | inr now ↦ elim (either_state taken.turn.why (state_on old.file before opened) (step (setting_of s old.file) (state_on old.file before opened) taken.turn.answered.command) _ taken.is.meaning) [
          | inl same ↦ inr (subst (λ (d : Command). HoldsState s old.file.head (step (setting_of s old.file) (state_on old.file before opened) d).state image) taken.command
              (subst (λ (state : State). HoldsState s old.file.head state image) same now))
          | inr same ↦ inl (subst (λ (state : State). HoldsState s old.file.head state image) same now)
        ]
      ])

  -- the step itself ended the session
  pub turned_stopped : (why : SessionStop) (out log : SinkState) → HasCarriedOut s show old new pinned0 pinned1 before after c (Err why) → HasTurned s show old new pinned0 pinned1 before after c out out log log (Err why)
  turned_stopped why out log did = record {
    going = tt;
    head = tt;
    metric = tt;
    is_known = did.is_known;
    later = did.later;
    out_later = omega arith;
    log_later = omega arith;
    grew = grew_none out;
    log_grew = grew_none log;
    numbers = tt;
    kept = tt;
    cause = cause why did.cause;
    stands = did.stands;
    through = λ through. tt;
    put = λ opened goes. tt;
    stopped = λ opened goes. stopped opened why did.cause;
    moments = did.moments;
  }
    where
      cause : (why : SessionStop) → HasStepCause (CanGoOn s old before pinned0) before after why → HasStopCause (CanGoOn s old before pinned0) before after out out log log why
      cause stop.Disk is = is
      cause (stop.Damaged page) is = is
      cause stop.Memory is = tt
      cause stop.Sink is = absurd is

      stopped : (opened : OpenCursors) (why : SessionStop) → HasStepCause (CanGoOn s old before pinned0) before after why → IsStoppedAt s show old.file opened before c out out log log why
      stopped opened stop.Disk is = (refl, refl)
      stopped opened (stop.Damaged page) is = (refl, refl)
      stopped opened stop.Memory is = (refl, refl)
      stopped opened stop.Sink is = absurd is

  -- memory ran out for what is to be written
  pub turned_memory : (a : Answer) (out log : SinkState) → HasCarriedOut s show old new pinned0 pinned1 before after c (Ok a) → HasTurned s show old new pinned0 pinned1 before after c out out log log (Err stop.Memory)
  turned_memory a out log did = record {
    going = tt;
    head = tt;
    metric = tt;
    is_known = did.is_known;
    later = did.later;
    out_later = omega arith;
    log_later = omega arith;
    grew = grew_none out;
    log_grew = grew_none log;
    numbers = tt;
    kept = tt;
    cause = tt;
    stands = λ through. tt;
    through = λ through. tt;
    put = λ opened goes. tt;
    stopped = λ opened goes. (refl, refl);
    moments = λ opened goes. let taken = did.taken opened goes in taken_moments opened taken.0 a taken.1;
  }

  -- all is written
  pub turned : (a : Answer) (reply frame : List ℕ) (out0 out1 log0 log1 : SinkState) → HasCarriedOut s show old new pinned0 pinned1 before after c (Ok a) → reply ≡ text show a.reply → frame ≡ framed (if_any a.log) →
      Appends out0.written out1.written reply → Appends log0.written log1.written frame → out0.faults ≤ out1.faults → log0.faults ≤ log1.faults →
      HasTurned s show old new pinned0 pinned1 before after c out0 out1 log0 log1 (Ok tt)
  turned a reply frame out0 out1 log0 log1 did is_reply is_frame put framed_put out_later log_later = record {
    going = did.going;
    head = did.head;
    metric = did.metric;
    is_known = did.is_known;
    later = did.later;
    out_later = out_later;
    log_later = log_later;
    grew = (reply, put);
    log_grew = (frame, framed_put);
    numbers = did.numbers;
    kept = did.kept;
    cause = tt;
    stands = λ through. tt;
    through = did.through;
    put = λ opened goes. let done = did.taken opened goes in (
      done.0,
      record {
        turn = done.1.turn;
        is = done.1.is;
        command = done.1.command;
        state = done.1.state;
        file = done.1.file;
        written = subst (λ (bytes : List ℕ). Appends out0.written out1.written bytes) (is_reply ∙ done.1.same_text) put;
        logged = subst (λ (bytes : List ℕ). Appends log0.written log1.written bytes) (is_frame ∙ ap (λ (log : Option Log). framed (if_any log)) (sym done.1.log)) framed_put;
        moments = done.1.moments;
        reads = done.1.reads;
      },
      done.2,
    );
    stopped = λ opened goes. tt;
    moments = λ opened goes. tt;
  }

  -- an output failed
  pub turned_cut : (a : Answer) (reply frame : List ℕ) (out0 out1 log0 log1 : SinkState) → HasCarriedOut s show old new pinned0 pinned1 before after c (Ok a) → reply ≡ text show a.reply → frame ≡ framed (if_any a.log) →
      IsCut out0 out1 log0 log1 reply frame → out0.faults ≤ out1.faults → log0.faults ≤ log1.faults →
      Rose out0.faults out1.faults ⊎ Rose log0.faults log1.faults → HasTurned s show old new pinned0 pinned1 before after c out0 out1 log0 log1 (Err stop.Sink)
  turned_cut a reply frame out0 out1 log0 log1 did is_reply is_frame cut out_later log_later rose = record {
    going = tt;
    head = tt;
    metric = tt;
    is_known = did.is_known;
    later = did.later;
    out_later = out_later;
    log_later = log_later;
    grew = (cut_grew out0 out1 log0 log1 reply frame cut).0;
    log_grew = (cut_grew out0 out1 log0 log1 reply frame cut).1;
    numbers = tt;
    kept = tt;
    cause = rose;
    stands = λ through. tt;
    through = λ through. tt;
    put = λ opened goes. tt;
    stopped = λ opened goes. let taken = (did.taken opened goes).1 in record {
      turn = taken.turn;
      is = taken.is;
      command = taken.command;
      cut = subst (λ (bytes : List ℕ). IsCut out0 out1 log0 log1 bytes (framed (if_any taken.turn.answered.log))) (is_reply ∙ taken.same_text)
          (subst (λ (bytes : List ℕ). IsCut out0 out1 log0 log1 reply bytes) (is_frame ∙ ap (λ (log : Option Log). framed (if_any log)) (sym taken.log)) cut);
    };
    moments = λ opened goes. let taken = did.taken opened goes in taken_moments opened taken.0 a taken.1;
  }
