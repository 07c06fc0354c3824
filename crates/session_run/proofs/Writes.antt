-- What an insert or a load of a session does.
use Rattle.std.proofs.Common.{◌≡◌, ◌≢◌, ℕ, ◌-◌, ◌^◌, ◌≤◌, Bool, true, false, inl, inr, refl, sym, ap, subst, ◌∙◌, Option, Some, None, Result, Ok, Err}
use Rattle.std.specs.Prelude.{MatchOption, IfErr}
use Rattle.metric_laws.specs.Space.{Space}
use Rattle.disk_model.specs.Disk.{DiskState, EachImage}
use Rattle.disk_model.specs.Moments.{weakened}
use Rattle.scan_model.specs.declared.query.Query.{Query}
use Rattle.rows_text.specs.declared.command.Command.{Command}
use Rattle.rows_text.specs.declared.command.Command.TheVariants as command
use Rattle.rows_text.specs.declared.refusal.Refusal.{Refusal}
use Rattle.rows_text.specs.declared.refusal.Refusal.TheVariants as refusal
use Rattle.rows_text.specs.declared.reply.Reply.{Reply}
use Rattle.rows_text.specs.declared.reply.Reply.TheVariants as reply
use Rattle.rows_text.specs.Meaning.{State, Step, accepts, hindered, step, TagsAre}
use Rattle.plain_scan.specs.OpenCursors.{OpenCursors, with_cursors}
use Rattle.answer_texts.specs.Asked.{HasLog, answered_query}
use Rattle.index_core.specs.declared.faults.IndexFault.{IndexFault}
use Rattle.index_core.specs.declared.faults.IndexFault.TheVariants as fault
use Rattle.index_core.specs.Answers.{IsSoundOn, points_on, tags_on}
use Rattle.index_core.specs.Files.{IsValidFile, OnlyReads}
use Rattle.index_core.specs.Index.{OpenIndex, StandsAlone}
use Rattle.index_core.specs.Writing.{Write, HasObjects, HasWritten, IsRefused, answer_to, points_after, tags_after}
use Rattle.session_run.specs.declared.stop.SessionStop.{SessionStop}
use Rattle.session_run.specs.declared.stop.SessionStop.TheVariants as stop
use Rattle.session_run.specs.Session.{IsAsking, StandsBy, setting_of, state_on}
use Rattle.session_run.specs.Steps.{HasStepCause, HasStepped, HoldsOne, IsTaken, answer_of_fault, plain_answer, written_answer}
use Rattle.session_run.specs.Turns.{Hinders, IsHindrance, IsNextVersion, IsVersionAfter, held_on, write_of}
use Rattle.session_run.proofs.Reading.{objects_on, read_stepped, read_stopped, read_taken}

-- a refusal leaves the file as a call that only reads does
pub refused_reads : {M : Type 0} (old new : OpenIndex M) (before after : DiskState) → IsRefused old new before after → before.faults ≤ after.faults → OnlyReads old.file new.file before after
refused_reads {M} old new before after refused later = record {
  rest = ap (λ (i : OpenIndex M). i.file) refused.is;
  room = refused.room;
  same = refused.same;
  later = later;
}

-- what writes doesn't only ask
asks_none : (count : ℕ) (c : Command) (write : Write) → write_of count c ≡ Some write → IsAsking c → ⊥
asks_none count (command.Range r q) write is asks = let e : None ≡ Some write = is in cc
asks_none count (command.Nearest k q) write is asks = let e : None ≡ Some write = is in cc
asks_none count command.Count write is asks = let e : None ≡ Some write = is in cc
asks_none count (command.Bad why) write is asks = let e : None ≡ Some write = is in cc
asks_none count (command.Insert p) write is asks = asks
asks_none count (command.TagInsert tag p) write is asks = asks
asks_none count (command.Load rows) write is asks = asks
asks_none count (command.TagLoad tags rows) write is asks = asks
asks_none count (command.Cursor q) write is asks = asks
asks_none count (command.Next cursor n) write is asks = asks
asks_none count (command.Close cursor) write is asks = asks

-- What is known of a write by its command: it means to add the objects, unless it is refused as full or for the objects that are
-- there; and why it is refused.
pub record IsWriteOf {M : Type 0} (s : Space) (old : OpenIndex M) (cursors : OpenCursors) (before after : DiskState) (c : Command) (write : Write) (says : ℕ → Reply) (result : Result ℕ IndexFault) : Type 0 where
  pub writes : write_of old.file.live.count c ≡ Some write
  pub unasked : answered_query s c ≡ None
  pub accepting : result ≢ Err fault.Full → result ≢ Err fault.NotEmpty →
      step (setting_of s old.file) (state_on old.file before cursors) c ≡ record {
        reply = says (answer_to write old.file.live.count);
        state = with_cursors (record { points = points_after write (points_on old.file before); tags = tags_after write (tags_on old.file before) }) cursors;
      }
  pub full : result ≡ Err fault.Full → step (setting_of s old.file) (state_on old.file before cursors) c ≡ record { reply = reply.Refused refusal.Full; state = state_on old.file before cursors }
  pub filled : result ≡ Err fault.NotEmpty → step (setting_of s old.file) (state_on old.file before cursors) c ≡ record { reply = reply.Refused refusal.NotEmpty; state = state_on old.file before cursors }
  pub worn : result ≡ Err fault.Worn → old.file.live.generation ≡ 2 ^ 48 - 1
  pub room : (pages needed : ℕ) → result ≡ Err (fault.NoRoom pages needed) → IsSoundOn s old.file before → Hinders s old.file.head (held_on old.file before) refusal.NoRoom write
  pub cause : IfErr result (λ why. IfErr (answer_of_fault why) (HasStepCause (IsSoundOn s old.file before) before after))
  pub stands : IfErr result (λ why. IfErr (answer_of_fault why) (StandsBy old.file.head after))
  pub accepts_says : (n : ℕ) → accepts (says n) ≡ true
  pub tags_says : (n : ℕ) → TagsAre (says n)
  pub is_known : after.is_known ≡ before.is_known
  pub later : before.faults ≤ after.faults

module _ {M : Type 0} (s : Space) (show : Bool) (old new : OpenIndex M) (cursors : OpenCursors) (before after : DiskState) (c : Command) (write : Write) (says : ℕ → Reply)
    (valid : IsValidFile s.dimension old.file) (alone : StandsAlone old before) (going : old.stopped ≡ false) where
  abbrev Meant : Type 0
  Meant = step (setting_of s old.file) (state_on old.file before cursors) c ≡ record {
    reply = says (answer_to write old.file.live.count);
    state = with_cursors (record { points = points_after write (points_on old.file before); tags = tags_after write (tags_on old.file before) }) cursors;
  }

  -- a crash leaves the objects before or after
  abbrev Written : State → Type 0
  Written state = (state.objects.points ≡ points_after write (points_on old.file before)) × (state.objects.tags ≡ tags_after write (tags_on old.file before))

  either : (result : Result ℕ IndexFault) → HasWritten s write old new before after result → (state : State) → Written state → IsSoundOn s old.file before →
      EachImage before after (HoldsOne s old.file.head (state_on old.file before cursors) state)
  either result written state is sound =
      weakened before after _ (HoldsOne s old.file.head (state_on old.file before cursors) state) (written.moments _ _ (objects_on s old.file before sound)) (λ image left. elim left [
        | inl was ↦ inl was
        | inr now ↦ inr (rw (is.0, is.1) now)
      ])

  -- the write is done
  done : (n : ℕ) → HasWritten s write old new before after (Ok n) → IsWriteOf s old cursors before after c write says (Ok n) → HasStepped s show old new cursors cursors before after c (Ok (plain_answer (says n)))
  done n written of = record {
    going = ap (λ (i : OpenIndex M). i.stopped) written.next.is ∙ going;
    head = ap (λ (i : OpenIndex M). i.file.head) written.next.is;
    metric = ap (λ (i : OpenIndex M). i.file.metric) written.next.is;
    is_known = of.is_known;
    later = of.later;
    spelled = tt;
    tagged = λ taking. of.tags_says n;
    cause = tt;
    stands = tt;
    taken = taken;
    moments = λ sound. tt;
  }
    where
      meant : Meant
      meant = of.accepting (λ e. absurd (cc)) (λ e. absurd (cc))

      taken : IsSoundOn s old.file before → IsTaken s show old.file new.file cursors cursors before after c (plain_answer (says n))
      taken sound = record {
        turn = record { answered = record { command = c; reply = says n; log = None }; why = None; state = state_on new.file after cursors; file = held_on new.file after };
        is = record {
          meaning = meant ∙ (λ i. record {
            reply = says (sym written.answer i);
            state = with_cursors (record { points = sym has.points_are i; tags = sym has.tags_are i }) cursors;
          });
          hindrance = tt;
          logged = subst (λ (q : Option Query). HasLog s (held_on old.file before) q None) (sym of.unasked) refl;
          after = subst (λ (b : Bool). IsVersionAfter s old.file.head (held_on old.file before) c b (held_on new.file after)) (sym (of.accepts_says n))
              (subst (λ (w : Option Write). MatchOption w ⊥ (IsNextVersion s old.file.head (held_on old.file before) (held_on new.file after))) (sym of.writes) (record {
                generation = ap (λ (i : OpenIndex M). i.file.live.generation) written.next.is ∙ written.next.generation;
                tree = written.tree _ _ (objects_on s old.file before sound);
              }));
          objects = record { sound = has.sound; points_are = refl; tags_are = refl };
        };
        command = refl;
        state = refl;
        file = refl;
        log = refl;
        same_text = refl;
        moments = either (Ok n) written (state_on new.file after cursors) (has.points_are, has.tags_are) sound;
        reads = λ asks. absurd (asks_none old.file.live.count c write of.writes asks);
      }
        where
          has : HasObjects s new.file after (points_after write (points_on old.file before)) (tags_after write (tags_on old.file before))
          has = written.objects _ _ (objects_on s old.file before sound)

  unlogged : answered_query s c ≡ None → HasLog s (held_on old.file before) (answered_query s c) None
  unlogged none = subst (λ (q : Option Query). HasLog s (held_on old.file before) q None) (sym none) refl

  -- it is refused, and nothing changes
  refused : (why : IndexFault) (r : Refusal) (hindrance : Option Refusal) → why ≢ fault.Commit → HasWritten s write old new before after (Err why) → IsWriteOf s old cursors before after c write says (Err why) →
      hindered hindrance (state_on old.file before cursors) (step (setting_of s old.file) (state_on old.file before cursors) c) ≡ record { reply = reply.Refused r; state = state_on old.file before cursors } →
      (IsSoundOn s old.file before → IsHindrance s old.file.head (held_on old.file before) c hindrance) →
      HasStepped s show old new cursors cursors before after c (Ok (plain_answer (reply.Refused r)))
  refused why r hindrance other written of meaning hinders =
      read_stepped s show old new cursors cursors before after c (plain_answer (reply.Refused r)) valid alone (ap (λ (i : OpenIndex M). i.stopped) (written.refused other).is ∙ going) reads
      tt (λ taking. tt)
      (λ sound. read_taken s show old new.file cursors cursors before after c (plain_answer (reply.Refused r)) hindrance (reply.Refused r) valid alone reads sound meaning refl (hinders sound) (unlogged of.unasked) refl
      (λ asks. absurd (asks_none old.file.live.count c write of.writes asks)))
    where
      reads : OnlyReads old.file new.file before after
      reads = refused_reads old new before after (written.refused other) of.later

  -- the file stands in the way
  hinders : (r : Refusal) → Meant → ((n : ℕ) → accepts (says n) ≡ true) →
      hindered (Some r) (state_on old.file before cursors) (step (setting_of s old.file) (state_on old.file before cursors) c) ≡ record { reply = reply.Refused r; state = state_on old.file before cursors }
  hinders r meant taking = rw (meant, taking (answer_to write old.file.live.count)) refl

  -- it ends the session
  ended : (why : IndexFault) (end : SessionStop) → why ≢ fault.Commit → HasWritten s write old new before after (Err why) → before.faults ≤ after.faults →
      HasStepCause (IsSoundOn s old.file before) before after end → StandsBy old.file.head after end → HasStepped s show old new cursors cursors before after c (Err end)
  ended why end other written later cause stands =
      read_stopped s show old new cursors cursors before after c end valid alone (refused_reads old new before after (written.refused other) later) cause stands

  meant_written : Meant → Written (step (setting_of s old.file) (state_on old.file before cursors) c).state
  meant_written meant = (ap (λ (done : Step). done.state.objects.points) meant, ap (λ (done : Step). done.state.objects.tags) meant)

  -- the disk failed in the commit
  failed : HasWritten s write old new before after (Err fault.Commit) → IsWriteOf s old cursors before after c write says (Err fault.Commit) → HasStepped s show old new cursors cursors before after c (Err stop.Disk)
  failed written of = record {
    going = tt;
    head = tt;
    metric = tt;
    is_known = of.is_known;
    later = of.later;
    spelled = tt;
    tagged = tt;
    cause = (written.stops refl).1;
    stands = tt;
    taken = λ sound. tt;
    moments = λ sound. either (Err fault.Commit) written (step (setting_of s old.file) (state_on old.file before cursors) c).state (meant_written (of.accepting (λ e. absurd (cc)) (λ e. absurd (cc)))) sound;
  }

  hindrance_is : (why : Refusal) → write_of old.file.live.count c ≡ Some write → Hinders s old.file.head (held_on old.file before) why write →
      IsHindrance s old.file.head (held_on old.file before) c (Some why)
  hindrance_is why writes hinders = subst (λ (w : Option Write). MatchOption w ⊥ (Hinders s old.file.head (held_on old.file before) why)) (sym writes) hinders

  -- a write, whatever came of it
  pub write_stepped : (result : Result ℕ IndexFault) → HasWritten s write old new before after result → IsWriteOf s old cursors before after c write says result →
      HasStepped s show old new cursors cursors before after c (written_answer says result)
  write_stepped (Ok n) written of = done n written of
  write_stepped (Err fault.Full) written of = refused fault.Full refusal.Full None (λ e. absurd (cc)) written of (of.full refl) (λ sound. tt)
  write_stepped (Err fault.NotEmpty) written of = refused fault.NotEmpty refusal.NotEmpty None (λ e. absurd (cc)) written of (of.filled refl) (λ sound. tt)
  write_stepped (Err fault.Worn) written of =
      refused fault.Worn refusal.Worn (Some refusal.Worn) (λ e. absurd (cc)) written of
      (hinders refusal.Worn (of.accepting (λ e. absurd (cc)) (λ e. absurd (cc))) of.accepts_says)
      (λ sound. hindrance_is refusal.Worn of.writes (of.worn refl))
  write_stepped (Err (fault.NoRoom pages needed)) written of =
      refused (fault.NoRoom pages needed) refusal.NoRoom (Some refusal.NoRoom) (λ e. absurd (cc)) written of
      (hinders refusal.NoRoom (of.accepting (λ e. absurd (cc)) (λ e. absurd (cc))) of.accepts_says)
      (λ sound. hindrance_is refusal.NoRoom of.writes (of.room pages needed refl sound))
  write_stepped (Err fault.Disk) written of = ended fault.Disk stop.Disk (λ e. absurd (cc)) written of.later of.cause of.stands
  write_stepped (Err (fault.Damaged f)) written of = ended (fault.Damaged f) (stop.Damaged f) (λ e. absurd (cc)) written of.later of.cause of.stands
  write_stepped (Err fault.Memory) written of = ended fault.Memory stop.Memory (λ e. absurd (cc)) written of.later of.cause of.stands
  write_stepped (Err fault.Stopped) written of = ended fault.Stopped stop.Disk (λ e. absurd (cc)) written of.later of.cause of.stands
  write_stepped (Err fault.Commit) written of = failed written of
