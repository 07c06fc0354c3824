-- What a command does that leaves the objects of a file as they are.
use Rattle.std.proofs.Common.{◌≡◌, ℕ, ◌+◌, ◌≤◌, Bool, true, false, List, inl, refl, sym, ap, subst, ◌∙◌, Option, Ok, Err}
use Rattle.std.specs.Prelude.{MatchOption}
use Rattle.metric_laws.specs.Space.{Space}
use Rattle.disk_model.specs.Disk.{DiskState, MayLeave, EachImage}
use Rattle.disk_model.specs.Moments.{weakened}
use Rattle.rows_text.specs.declared.command.Command.{Command}
use Rattle.rows_text.specs.declared.refusal.Refusal.{Refusal}
use Rattle.rows_text.specs.declared.reply.Reply.{Reply}
use Rattle.rows_text.specs.Meaning.{State, Step, accepts, hindered, step, TagsAre}
use Rattle.rows_text.specs.Texts.{text}
use Rattle.plain_scan.specs.OpenCursors.{OpenCursors, with_cursors}
use Rattle.tree_shape.specs.Tree.{points_by_id, tags_by_id}
use Rattle.page_store.specs.Reading.{reading, nodes_of}
use Rattle.log_model.specs.Grammar.{IsValidLog}
use Rattle.index_core.specs.Answers.{IsSoundOn, points_on, tags_on}
use Rattle.index_core.specs.Files.{OpenFile, IsValidFile, OnlyReads}
use Rattle.index_core.specs.Index.{OpenIndex, StandsAlone}
use Rattle.index_core.specs.Writing.{HasObjects}
use Rattle.index_core.proofs.Published.{holds, has_still}
use Rattle.session_run.specs.declared.answer.Answer.{Answer}
use Rattle.session_run.specs.declared.stop.SessionStop.{SessionStop}
use Rattle.session_run.specs.Session.{HoldsState, IsAsking, StandsBy, records_in, setting_of, state_on}
use Rattle.session_run.specs.Steps.{HasStepCause, HasStepped, HoldsOne, IsTaken}
use Rattle.answer_texts.specs.Answered.{if_any}
use Rattle.answer_texts.specs.Asked.{Held, HasLog, answered_query}
use Rattle.session_run.specs.Turns.{IsHindrance, IsVersionAfter, held_on}

-- the objects of a sound file
pub objects_on : {M : Type 0} (s : Space) (file : OpenFile M) (disk : DiskState) → IsSoundOn s file disk → HasObjects s file disk (points_on file disk) (tags_on file disk)
objects_on s file disk sound = record { is_known = sound.0; sound = sound.1; points_are = refl; tags_are = refl }

-- a call that only reads leaves what the file holds
held_still : {M : Type 0} (old new : OpenFile M) (before after : DiskState) → OnlyReads old new before after → held_on new after ≡ held_on old before
held_still {M} old new before after reads =
    ap (λ (file : OpenFile M). held_on file after) reads.rest
    ∙ ap (λ (bytes : List ℕ). (let v : Held = record { nodes = nodes_of (reading old.head.dim old.live.pages bytes); live = old.live } in v)) reads.same.same_bytes

pub state_still : {M : Type 0} (old new : OpenFile M) (before after : DiskState) (cursors : OpenCursors) → OnlyReads old new before after → state_on new after cursors ≡ state_on old before cursors
state_still old new before after cursors reads =
    ap (λ (v : Held). with_cursors (record { points = points_by_id v.nodes v.live; tags = tags_by_id v.nodes v.live }) cursors) (held_still old new before after reads)

pub sound_still : {M : Type 0} (s : Space) (old new : OpenFile M) (before after : DiskState) → OnlyReads old new before after → IsSoundOn s old before → IsSoundOn s new after
sound_still s old new before after reads sound =
    let has = has_still s old new before after _ _ reads (objects_on s old before sound) in (has.is_known, has.sound)

-- and it leaves what a crash may leave
pub either_reading : {M : Type 0} (s : Space) (index : OpenIndex M) (new : OpenFile M) (opened : OpenCursors) (before after : DiskState) (other : State) →
    IsValidFile s.dimension index.file → StandsAlone index before → OnlyReads index.file new before after → IsSoundOn s index.file before →
    EachImage before after (HoldsOne s index.file.head (state_on index.file before opened) other)
either_reading s index new opened before after other valid alone reads sound =
    weakened before after (MayLeave before) (HoldsOne s index.file.head (state_on index.file before opened) other) reads.same.time
    (λ image left. inl (subst (λ (file : List ℕ). HoldsState s index.file.head (state_on index.file before opened) file) (sym (alone.only sound.0 image left))
    (holds s index.file before _ _ valid alone.stands (objects_on s index.file before sound))))

-- an answer that accepts no object is a turn
pub read_taken : {M : Type 0} (s : Space) (show : Bool) (index : OpenIndex M) (new : OpenFile M) (opened cursors : OpenCursors) (before after : DiskState) (c : Command) (a : Answer) (why : Option Refusal) (meant : Reply) →
    IsValidFile s.dimension index.file → StandsAlone index before → OnlyReads index.file new before after → IsSoundOn s index.file before →
    hindered why (state_on index.file before opened) (step (setting_of s index.file) (state_on index.file before opened) c) ≡ record { reply = meant; state = state_on index.file before cursors } →
    accepts meant ≡ false → IsHindrance s index.file.head (held_on index.file before) c why → HasLog s (held_on index.file before) (answered_query s c) a.log → text show a.reply ≡ text show meant →
    (IsAsking c → after.reads ≤ before.reads + records_in (if_any a.log)) → IsTaken s show index.file new opened cursors before after c a
read_taken s show index new opened cursors before after c a why meant valid alone reads sound meaning none hindrance logged same few = let old = index.file in record {
  turn = record { answered = record { command = c; reply = meant; log = a.log }; why = why; state = state_on new after cursors; file = held_on new after };
  is = record {
    meaning = meaning ∙ ap (λ (state : State). (let done : Step = record { reply = meant; state = state } in done)) (sym (state_still old new before after cursors reads));
    hindrance = hindrance;
    logged = logged;
    after = subst (λ (b : Bool). IsVersionAfter s old.head (held_on old before) c b (held_on new after)) (sym none) (held_still old new before after reads);
    objects = record { sound = (sound_still s old new before after reads sound).1; points_are = refl; tags_are = refl };
  };
  command = refl;
  state = refl;
  file = refl;
  log = refl;
  same_text = same;
  moments = either_reading s index new opened before after (state_on new after cursors) valid alone reads sound;
  reads = few;
}

-- a command that only reads and is answered
pub read_stepped : {M : Type 0} (s : Space) (show : Bool) (old new : OpenIndex M) (opened cursors : OpenCursors) (before after : DiskState) (c : Command) (a : Answer) →
    IsValidFile s.dimension old.file → StandsAlone old before → new.stopped ≡ false → OnlyReads old.file new.file before after →
    MatchOption a.log (Unit {0}) IsValidLog → (show ≡ true → TagsAre a.reply) →
    (IsSoundOn s old.file before → IsTaken s show old.file new.file opened cursors before after c a) →
    HasStepped s show old new opened cursors before after c (Ok a)
read_stepped {M} s show old new opened cursors before after c a valid alone going reads spelled tagged taken = record {
  going = going;
  head = ap (λ (file : OpenFile M). file.head) reads.rest;
  metric = ap (λ (file : OpenFile M). file.metric) reads.rest;
  is_known = reads.same.same_known;
  later = reads.later;
  spelled = spelled;
  tagged = tagged;
  cause = tt;
  stands = tt;
  taken = taken;
  moments = λ sound. tt;
}

-- a command that only reads and ends the session
pub read_stopped : {M : Type 0} (s : Space) (show : Bool) (old new : OpenIndex M) (opened cursors : OpenCursors) (before after : DiskState) (c : Command) (why : SessionStop) →
    IsValidFile s.dimension old.file → StandsAlone old before → OnlyReads old.file new.file before after → HasStepCause (IsSoundOn s old.file before) before after why → StandsBy old.file.head after why →
    HasStepped s show old new opened cursors before after c (Err why)
read_stopped {M} s show old new opened cursors before after c why valid alone reads cause stands = record {
  going = tt;
  head = tt;
  metric = tt;
  is_known = reads.same.same_known;
  later = reads.later;
  spelled = tt;
  tagged = tt;
  cause = cause;
  stands = stands;
  taken = λ sound. tt;
  moments = λ sound. either_reading s old new.file opened before after (step (setting_of s old.file) (state_on old.file before opened) c).state valid alone reads sound;
}
