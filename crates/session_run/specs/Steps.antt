-- What one command of a session does.
use Rattle.std.specs.Prelude.{◌≡◌, ◌⊎◌, ℕ, ◌+◌, ◌≤◌, List, length, Bool, true, false, Some, None, MatchOption, Result, Ok, Err, IfOk, IfErr, OnOk, OnErr}
use Rattle.metric_laws.specs.Space.{Space}
use Rattle.std.specs.Io.KnownBytes.{Appends}
use Rattle.outside_io.specs.Causes.{Rose}
use Rattle.outside_io.specs.Sinks.{SinkState}
use Rattle.disk_model.specs.Disk.{DiskState, EachImage}
use Rattle.rows_text.specs.declared.command.Command.{Command}
use Rattle.rows_text.specs.declared.refusal.Refusal.TheVariants as refusal
use Rattle.rows_text.specs.declared.reply.Reply.{Reply}
use Rattle.rows_text.specs.declared.reply.Reply.TheVariants as reply
use Rattle.node_page.specs.declared.head.Head.{Head}
use Rattle.rows_text.specs.Meaning.{Holdings, State, TagsAre, close_from, cursor_named, next_from, step}
use Rattle.rows_text.specs.Texts.{text}
use Rattle.plain_scan.specs.OpenCursors.{OpenCursors, with_cursors}
use Rattle.tree_shape.specs.declared.live.Live.{Live}
use Rattle.tree_shape.specs.Tree.{Nodes}
use Rattle.page_store.specs.declared.pages.PageFault.{PageFault}
use Rattle.page_store.specs.declared.pages.PageFault.TheVariants as page
use Rattle.log_model.specs.declared.logs.Found.{Found}
use Rattle.log_model.specs.Grammar.{IsValidLog}
use Rattle.log_model.specs.Met.{tagged_by}
use Rattle.hit_tags.specs.Tags.{met_tags}
use Rattle.answer_texts.specs.Answered.{framed, if_any}
use Rattle.answer_texts.specs.Put.{IsCut}
use Rattle.index_core.specs.Answers.{IsSoundOn}
use Rattle.index_core.specs.Files.{OpenFile}
use Rattle.index_core.specs.Index.{OpenIndex}
use Rattle.index_core.specs.declared.faults.IndexFault.{IndexFault}
use Rattle.index_core.specs.declared.faults.IndexFault.TheVariants as fault
use Rattle.session_run.specs.declared.answer.Answer.{Answer}
use Rattle.session_run.specs.declared.pinned.PinnedCursors.{PinnedCursors}
use Rattle.session_run.specs.declared.stop.SessionStop.{SessionStop}
use Rattle.session_run.specs.declared.stop.SessionStop.TheVariants as stop
use Rattle.session_run.specs.Turns.{Turn, IsTurn, held_on}
use Rattle.session_run.specs.Pinned.{AllGoThrough, AreKeptBy, CanGoOn, GoesOn, StandFor}
use Rattle.session_run.specs.Session.{Grew, HasStopCause, HoldsState, IsAsking, IsDamage, StandsBy, records_in, setting_of, state_on}

-- an answer without a log
abbrev pub plain_answer : Reply → Answer
plain_answer r = record { reply = r; log = None }

-- maps the index's refusal to a session's: a reply, or its end
abbrev pub answer_of_fault : IndexFault → Result Answer SessionStop
answer_of_fault fault.Full = Ok (plain_answer (reply.Refused refusal.Full))
answer_of_fault fault.NotEmpty = Ok (plain_answer (reply.Refused refusal.NotEmpty))
answer_of_fault (fault.NoRoom pages needed) = Ok (plain_answer (reply.Refused refusal.NoRoom))
answer_of_fault fault.Worn = Ok (plain_answer (reply.Refused refusal.Worn))
answer_of_fault fault.Disk = Err stop.Disk
answer_of_fault fault.Commit = Err stop.Disk
answer_of_fault fault.Stopped = Err stop.Disk
answer_of_fault (fault.Damaged page) = Err (stop.Damaged page)
answer_of_fault fault.Memory = Err stop.Memory

-- what a write is answered
abbrev pub written_answer : (ℕ → Reply) → Result ℕ IndexFault → Result Answer SessionStop
written_answer says (Ok n) = Ok (plain_answer (says n))
written_answer says (Err why) = answer_of_fault why

-- why the step of a cursor ends the session
abbrev pub stop_of_page : PageFault → SessionStop
stop_of_page page.Disk = stop.Disk
stop_of_page page.Memory = stop.Memory
stop_of_page fault = stop.Damaged fault

-- why a command ends the session
abbrev pub HasStepCause : Type 0 → DiskState → DiskState → SessionStop → Type 0
HasStepCause Sound before after stop.Disk = Rose before.faults after.faults
HasStepCause Sound before after (stop.Damaged page) = IsDamage page × ¬ Sound
HasStepCause Sound before after stop.Memory = Unit {0}
HasStepCause Sound before after stop.Sink = ⊥

-- the file is sound and has the objects of one of two states
abbrev pub HoldsOne : Space → Head → State → State → List ℕ → Type 0
HoldsOne s head first second image = HoldsState s head first image ⊎ HoldsState s head second image

-- the objects from before a command, or those after it
abbrev pub HoldsEither : {M : Type 0} → Space → OpenFile M → DiskState → OpenCursors → Command → List ℕ → Type 0
HoldsEither s file disk cursors c image = HoldsOne s file.head (state_on file disk cursors)
    (step (setting_of s file) (state_on file disk cursors) c).state image

-- What a command did on a sound file is a turn whose reply has the text of the answer's reply. A crash within it leaves the objects
-- before or after.
pub record IsTaken {M : Type 0} (s : Space) (show : Bool) (old new : OpenFile M) (opened cursors : OpenCursors)
    (before after : DiskState) (c : Command) (answer : Answer) : Type 0 where
  pub turn : Turn
  pub is : IsTurn (setting_of s old) old.head (state_on old before opened) (held_on old before) turn
  pub command : turn.answered.command ≡ c
  pub state : turn.state ≡ state_on new after cursors
  pub file : turn.file ≡ held_on new after
  pub log : turn.answered.log ≡ answer.log
  pub same_text : text show answer.reply ≡ text show turn.answered.reply
  pub moments : EachImage before after (HoldsOne s old.head (state_on old before opened) turn.state)
  pub reads : IsAsking c → after.reads ≤ before.reads + records_in (if_any turn.answered.log)

-- What one command does to the index. On a sound file it is a turn. Where it ends the session, a crash leaves the objects before or
-- after.
pub record HasStepped {M : Type 0} (s : Space) (show : Bool) (old new : OpenIndex M) (opened cursors : OpenCursors)
    (before after : DiskState) (c : Command) (result : Result Answer SessionStop) : Type 0 where
  pub going : OnOk result (new.stopped ≡ false)
  pub head : OnOk result (new.file.head ≡ old.file.head)
  pub metric : OnOk result (new.file.metric ≡ old.file.metric)
  pub is_known : after.is_known ≡ before.is_known
  pub later : before.faults ≤ after.faults
  pub spelled : IfOk result (λ a. MatchOption a.log (Unit {0}) IsValidLog)
  pub tagged : IfOk result (λ a. show ≡ true → TagsAre a.reply)
  pub cause : IfErr result (HasStepCause (IsSoundOn s old.file before) before after)
  pub stands : IfErr result (StandsBy old.file.head after)
  pub taken : IsSoundOn s old.file before → IfOk result (IsTaken s show old.file new.file opened cursors before after c)
  pub moments : IsSoundOn s old.file before → OnErr result (EachImage before after (HoldsEither s old.file before opened c))

-- What one command does. On a sound file, where the open cursors stand for some, it is a turn on these, and afterwards the open
-- cursors stand for those after it. Where it ends the session, a crash leaves the objects before or after.
pub record HasCarriedOut {M : Type 0} (s : Space) (show : Bool) (old new : OpenIndex M) (pinned0 pinned1 : PinnedCursors)
    (before after : DiskState) (c : Command) (result : Result Answer SessionStop) : Type 0 where
  pub going : OnOk result (new.stopped ≡ false)
  pub head : OnOk result (new.file.head ≡ old.file.head)
  pub metric : OnOk result (new.file.metric ≡ old.file.metric)
  pub is_known : after.is_known ≡ before.is_known
  pub later : before.faults ≤ after.faults
  pub numbers : OnOk result (pinned1.next ≤ pinned0.next + 1)
  pub kept : OnOk result (AreKeptBy s new pinned1)
  pub spelled : IfOk result (λ a. MatchOption a.log (Unit {0}) IsValidLog)
  pub tagged : IfOk result (λ a. show ≡ true → TagsAre a.reply)
  pub cause : IfErr result (HasStepCause (CanGoOn s old before pinned0) before after)
  pub stands : AllGoThrough old before pinned0 → IfErr result (StandsBy old.file.head after)
  pub through : AllGoThrough old before pinned0 → OnOk result (AllGoThrough new after pinned1)
  pub taken : (opened : OpenCursors) → GoesOn s old before pinned0 opened →
      IfOk result (λ a. (cursors : OpenCursors) × IsTaken s show old.file new.file opened cursors before after c a × GoesOn s new after pinned1 cursors)
  pub moments : (opened : OpenCursors) → GoesOn s old before pinned0 opened → OnErr result (EachImage before after (HoldsEither s old.file before opened c))

-- the reply has the next n hits of cursor `number`, and the open cursors stand for those after the command
pub record HasAdvanced {M : Type 0} (s : Space) (index : OpenIndex M) (bytes : List ℕ) (pinned : PinnedCursors)
    (opened : OpenCursors) (number n : ℕ) (r : Reply) : Type 0 where
  pub cursors : OpenCursors
  pub stand : StandFor s index bytes pinned cursors
  pub meaning : (objects : Holdings) →
      next_from (with_cursors objects opened) number n (cursor_named number (with_cursors objects opened)) ≡ record {
        reply = r;
        state = with_cursors objects cursors;
      }

-- cursor `number` is closed, if there is one, and the open cursors stand for the others
pub record HasClosed {M : Type 0} (s : Space) (index : OpenIndex M) (bytes : List ℕ) (pinned : PinnedCursors)
    (opened : OpenCursors) (number : ℕ) (r : Reply) : Type 0 where
  pub cursors : OpenCursors
  pub stand : StandFor s index bytes pinned cursors
  pub meaning : (objects : Holdings) →
      close_from (with_cursors objects opened) number (cursor_named number (with_cursors objects opened)) ≡ record {
        reply = r;
        state = with_cursors objects cursors;
      }

-- what was found is answered with its tags, where they are shown, and with its log
pub record IsShownAs (show : Bool) (found : Found) (answer : Answer) : Type 0 where
  pub tags : List ℕ
  pub is : answer ≡ record { reply = reply.Hits found.hits tags; log = Some found.log }
  pub each : show ≡ true → length tags ≡ length found.hits
  pub met : show ≡ true → (s : Space) (q : List ℕ) (nodes : Nodes) (live : Live) → found.tagged ≡ tagged_by s q nodes live.root found.log.records →
      tags ≡ met_tags nodes live found

-- a turn was put: the reply's text, and before it the frame of its log
pub record IsPut {M : Type 0} (s : Space) (show : Bool) (old new : OpenFile M) (opened cursors : OpenCursors) (before after : DiskState) (c : Command)
    (out0 out1 log0 log1 : SinkState) : Type 0 where
  pub turn : Turn
  pub is : IsTurn (setting_of s old) old.head (state_on old before opened) (held_on old before) turn
  pub command : turn.answered.command ≡ c
  pub state : turn.state ≡ state_on new after cursors
  pub file : turn.file ≡ held_on new after
  pub written : Appends out0.written out1.written (text show turn.answered.reply)
  pub logged : Appends log0.written log1.written (framed (if_any turn.answered.log))
  pub moments : EachImage before after (HoldsOne s old.head (state_on old before opened) turn.state)
  pub reads : IsAsking c → after.reads ≤ before.reads + records_in (if_any turn.answered.log)

-- a turn was put in part
pub record IsPartlyPut {M : Type 0} (s : Space) (show : Bool) (old : OpenFile M) (opened : OpenCursors) (before : DiskState) (c : Command)
    (out0 out1 log0 log1 : SinkState) : Type 0 where
  pub turn : Turn
  pub is : IsTurn (setting_of s old) old.head (state_on old before opened) (held_on old before) turn
  pub command : turn.answered.command ≡ c
  pub cut : IsCut out0 out1 log0 log1 (text show turn.answered.reply) (framed (if_any turn.answered.log))

-- what the outputs hold after a command at which the session stops
abbrev pub IsStoppedAt : {M : Type 0} → Space → Bool → OpenFile M → OpenCursors → DiskState → Command → SinkState → SinkState →
    SinkState → SinkState → SessionStop → Type 0
IsStoppedAt s show old opened before c out0 out1 log0 log1 stop.Sink = IsPartlyPut s show old opened before c out0 out1 log0 log1
IsStoppedAt s show old opened before c out0 out1 log0 log1 why = (out1 ≡ out0) × (log1 ≡ log0)

-- What one command does and writes.
pub record HasTurned {M : Type 0} (s : Space) (show : Bool) (old new : OpenIndex M) (pinned0 pinned1 : PinnedCursors) (before after : DiskState) (c : Command)
    (out0 out1 log0 log1 : SinkState) (result : Result (Unit {0}) SessionStop) : Type 0 where
  pub going : OnOk result (new.stopped ≡ false)
  pub head : OnOk result (new.file.head ≡ old.file.head)
  pub metric : OnOk result (new.file.metric ≡ old.file.metric)
  pub is_known : after.is_known ≡ before.is_known
  pub later : before.faults ≤ after.faults
  pub out_later : out0.faults ≤ out1.faults
  pub log_later : log0.faults ≤ log1.faults
  pub grew : Grew out0 out1
  pub log_grew : Grew log0 log1
  pub numbers : OnOk result (pinned1.next ≤ pinned0.next + 1)
  pub kept : OnOk result (AreKeptBy s new pinned1)
  pub cause : IfErr result (HasStopCause (CanGoOn s old before pinned0) before after out0 out1 log0 log1)
  pub stands : AllGoThrough old before pinned0 → IfErr result (StandsBy old.file.head after)
  pub through : AllGoThrough old before pinned0 → OnOk result (AllGoThrough new after pinned1)
  pub put : (opened : OpenCursors) → GoesOn s old before pinned0 opened →
      OnOk result ((cursors : OpenCursors) × IsPut s show old.file new.file opened cursors before after c out0 out1 log0 log1
      × GoesOn s new after pinned1 cursors)
  pub stopped : (opened : OpenCursors) → GoesOn s old before pinned0 opened → IfErr result (IsStoppedAt s show old.file opened before c out0 out1 log0 log1)
  pub moments : (opened : OpenCursors) → GoesOn s old before pinned0 opened → OnErr result (EachImage before after (HoldsEither s old.file before opened c))
