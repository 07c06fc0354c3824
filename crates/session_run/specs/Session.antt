-- What a session of commands on an index does and writes, and what a crash in it may leave.
use Rattle.std.specs.Prelude.{◌≡◌, ◌⊎◌, ℕ, ◌+◌, ◌≤◌, Bool, List, [], ◌∷◌, ◌++◌, length, Option, Some, None, IsTrue}
use Rattle.std.specs.List.{AllByRecursion, concat}
use Rattle.std.specs.Io.KnownBytes.{Appends}
use Rattle.metric_laws.specs.Space.{Space}
use Rattle.outside_io.specs.Causes.{Rose}
use Rattle.outside_io.specs.Sinks.{SinkState}
use Rattle.disk_model.specs.Disk.{DiskState, MayLeave, EachImage}
use Rattle.node_page.specs.declared.head.Head.{Head}
use Rattle.node_page.specs.Opening.{OpensTo}
use Rattle.page_store.specs.declared.pages.PageFault.{PageFault}
use Rattle.page_store.specs.declared.pages.PageFault.TheVariants as page
use Rattle.rows_text.specs.declared.command.Command.{Command}
use Rattle.rows_text.specs.declared.command.Command.TheVariants as command
use Rattle.rows_text.specs.Meaning.{Setting, State, step}
use Rattle.rows_text.specs.Texts.{text}
use Rattle.plain_scan.specs.OpenCursors.{OpenCursors, with_cursors}
use Rattle.log_model.specs.declared.logs.Log.{Log}
use Rattle.tree_shape.specs.declared.live.Live.{Live}
use Rattle.answer_texts.specs.Answered.{commands_of, framed, if_any, logs_of, texts_of}
use Rattle.answer_texts.specs.Asked.{Held}
use Rattle.answer_texts.specs.Put.{AreCut}
use Rattle.index_core.specs.Answers.{points_on, tags_on}
use Rattle.index_core.specs.Damage.{IsDamageOf}
use Rattle.index_core.specs.Files.{OpenFile}
use Rattle.index_core.specs.Writing.{HoldsObjects}
use Rattle.session_run.specs.declared.stop.SessionStop.{SessionStop}
use Rattle.session_run.specs.declared.stop.SessionStop.TheVariants as stop
use Rattle.session_run.specs.Turns.{Turn, AreTurns, IsTurn, answers_of, file_after, state_after}

-- the points of the index's space, and how many objects it may have
abbrev pub setting_of : {M : Type 0} → Space → OpenFile M → Setting
setting_of s file = record { space = s; limit = file.head.limit }

-- the objects of the index, with the open cursors
abbrev pub state_on : {M : Type 0} → OpenFile M → DiskState → OpenCursors → State
state_on file disk cursors = with_cursors (record { points = points_on file disk; tags = tags_on file disk }) cursors

-- no cursor is open
abbrev pub no_cursors : OpenCursors
no_cursors = record { cursors = []; next = 0 }

-- ---- what a crash leaves

-- the file is sound and has the objects of the state
abbrev pub HoldsState : Space → Head → State → List ℕ → Type 0
HoldsState s head state image = HoldsObjects s head state.objects.points state.objects.tags image

-- the objects after the next command, if there is one
abbrev pub HoldsNext : Setting → Head → State → List Command → List ℕ → Type 0
HoldsNext setting head state [] image = ⊥
HoldsNext setting head state (c ∷ more) image = HoldsState setting.space head (step setting state c).state image

-- the objects after the first n of `turns`, for some n
abbrev pub HoldsSome : Setting → Head → State → List Turn → List ℕ → Type 0
HoldsSome setting head state [] image = HoldsState setting.space head state image
HoldsSome setting head state (t ∷ turns) image = HoldsState setting.space head state image ⊎ HoldsSome setting head t.state turns image

-- ---- what is written

-- The command after the acknowledged ones was carried out, and a front of its log's frame was put; or all of the frame, and a front of
-- its reply.
pub record IsCutShort (setting : Setting) (head : Head) (show : Bool) (state : State) (file : Held) (more : List Command)
    (rest log_rest : List ℕ) : Type 0 where
  pub turn : Turn
  pub others : List Command
  pub is : IsTurn setting head state file turn
  pub next : more ≡ turn.answered.command ∷ others
  pub cut : AreCut (text show turn.answered.reply) (framed (if_any turn.answered.log)) rest log_rest

-- how a session ends after the acknowledged commands: no command is left; or an output failed in the next command's frame or reply;
-- or it stopped before any of these was put
abbrev pub Ends : Setting → Head → Bool → State → Held → List Command → Option SessionStop → List ℕ → List ℕ → Type 0
Ends setting head show state file more None rest log_rest = (more ≡ []) × (rest ≡ []) × (log_rest ≡ [])
Ends setting head show state file more (Some stop.Sink) rest log_rest = IsCutShort setting head show state file more rest log_rest
Ends setting head show state file more (Some why) rest log_rest = (rest ≡ []) × (log_rest ≡ [])

-- some bytes were put
abbrev pub Grew : SinkState → SinkState → Type 0
Grew old new = (bytes : List ℕ) × Appends old.written new.written bytes

-- ---- what is read

-- a command that only asks: a query, a count, or what can't be read as a command
abbrev pub IsAsking : Command → Type 0
IsAsking (command.Range r q) = Unit {0}
IsAsking (command.Nearest k q) = Unit {0}
IsAsking command.Count = Unit {0}
IsAsking (command.Bad why) = Unit {0}
IsAsking other = ⊥

-- how many opened pages the logs show
abbrev pub records_in : List Log → ℕ
records_in [] = 0
records_in (log ∷ logs) = length log.records + records_in logs

-- What a session of `commands` does on a sound file. The first commands are acknowledged: each is a turn, whose log frame is put and
-- then its reply, whole. At every moment a crash leaves the objects after some of the commands; at the end it leaves those after all
-- acknowledged ones, or after one command more. Where all commands only ask, each opened page was read at most once, whether tags are
-- shown or not.
pub record HasRun (setting : Setting) (head : Head) (show : Bool) (commands : List Command) (state : State) (file : Held)
    (disk0 disk1 : DiskState) (out0 out1 log0 log1 : SinkState) (acknowledged : ℕ) (stopped : Option SessionStop) (left : Held) : Type 0 where
  pub turns : List Turn
  pub more : List Command
  pub rest : List ℕ
  pub log_rest : List ℕ
  pub whole : commands ≡ commands_of (answers_of turns) ++ more
  pub are : AreTurns setting head state file turns
  pub count : acknowledged ≡ length turns
  pub ends : Ends setting head show (state_after state turns) (file_after file turns) more stopped rest log_rest
  pub written : Appends out0.written out1.written (concat (texts_of show (answers_of turns)) ++ rest)
  pub logged : Appends log0.written log1.written (framed (logs_of (answers_of turns)) ++ log_rest)
  pub last : stopped ≡ None → left ≡ file_after file turns
  pub reads : stopped ≡ None → AllByRecursion IsAsking commands → disk1.reads ≤ disk0.reads + records_in (logs_of (answers_of turns))
  pub moments : EachImage disk0 disk1 (λ image. HoldsSome setting head state turns image ⊎ HoldsNext setting head (state_after state turns) more image)
  pub remains : (image : List ℕ) → MayLeave disk1 image →
      HoldsState setting.space head (state_after state turns) image ⊎ HoldsNext setting head (state_after state turns) more image

-- ---- why it stops

-- a page is damaged: it holds no node, lies outside the file, is reached twice, or stands at another level than its depth asks for
abbrev pub IsDamage : PageFault → Type 0
IsDamage (page.Bad p fault) = Unit {0}
IsDamage (page.Outside p) = Unit {0}
IsDamage (page.Repeats p) = Unit {0}
IsDamage (page.Level p) = Unit {0}
IsDamage _ = ⊥

-- what a fault says of a page is true in a file with `bytes`: they open to `head` and to a live slot, and child numbers lead from its
-- root to the page
pub record IsDamageIn (head : Head) (bytes : List ℕ) (fault : PageFault) : Type 0 where
  pub live : Live
  pub opens : OpensTo bytes head live
  pub is : IsDamageOf head.dim bytes live fault

-- the same for a session that stopped, where the disk tells its bytes
abbrev pub StandsBy : Head → DiskState → SessionStop → Type 0
StandsBy head disk (stop.Damaged fault) = IsTrue disk.is_known → IsDamageIn head disk.bytes fault
StandsBy head disk _ = Unit {0}

-- Why a session stops: an output failed; the disk failed; a page is damaged, of a file that was not sound; or memory ran out.
abbrev pub HasStopCause : Type 0 → DiskState → DiskState → SinkState → SinkState → SinkState → SinkState → SessionStop → Type 0
HasStopCause Sound disk0 disk1 out0 out1 log0 log1 stop.Sink = Rose out0.faults out1.faults ⊎ Rose log0.faults log1.faults
HasStopCause Sound disk0 disk1 out0 out1 log0 log1 stop.Disk = Rose disk0.faults disk1.faults
HasStopCause Sound disk0 disk1 out0 out1 log0 log1 (stop.Damaged fault) = IsDamage fault × ¬ Sound
HasStopCause Sound disk0 disk1 out0 out1 log0 log1 stop.Memory = Unit {0}
