-- What a session does on a sound file, command by command.
use Rattle.std.specs.Prelude.{◌≡◌, ℕ, ◌+◌, ◌-◌, ◌^◌, ◌<◌, Bool, true, false, List, [], ◌∷◌, length, map, Option, Some, None, MatchOption}
use Rattle.metric_laws.specs.Space.{Space}
use Rattle.disk_model.specs.Disk.{DiskState}
use Rattle.rows_text.specs.declared.command.Command.{Command}
use Rattle.rows_text.specs.declared.command.Command.TheVariants as command
use Rattle.rows_text.specs.declared.refusal.Refusal.{Refusal}
use Rattle.rows_text.specs.declared.refusal.Refusal.TheVariants as refusal
use Rattle.rows_text.specs.Meaning.{Holdings, Setting, State, accepts, hindered, numbers_from, step}
use Rattle.tree_shape.specs.Plain.{tree_of}
use Rattle.tree_growth.specs.Insertion.{rules}
use Rattle.node_page.specs.declared.head.Head.{Head}
use Rattle.insert_path.specs.Placing.{fresh_of}
use Rattle.bulk_load.specs.Causes.{node_count}
use Rattle.shadow_root.specs.Placements.{IsTreeOf}
use Rattle.answer_texts.specs.Answered.{Answered}
use Rattle.answer_texts.specs.Asked.{Held, HasLog, answered_query}
use Rattle.index_core.specs.Files.{OpenFile, nodes_on}
use Rattle.index_core.specs.Writing.{Write, Inserts, Loads, tree_after}

-- what the file of an opened index holds on a disk
abbrev pub held_on : {M : Type 0} → OpenFile M → DiskState → Held
held_on file disk = record { nodes = nodes_on file disk; live = file.live }

-- the tree is sound, and has the objects of the holdings
abbrev pub HasObjectsOf : Space → Held → Holdings → Type 0
HasObjectsOf s file objects = IsTreeOf s file.nodes file.live objects.points objects.tags

-- ---- what is written

-- what a command writes to an index of `count` objects
abbrev pub write_of : ℕ → Command → Option Write
write_of count (command.Insert p) = Some (Inserts p count)
write_of count (command.TagInsert tag p) = Some (Inserts p tag)
write_of count (command.Load rows) = Some (Loads rows.points (numbers_from 0 (length rows.points)))
write_of count (command.TagLoad tags rows) = Some (Loads rows.points tags)
write_of count other = None

-- how many nodes a write makes
abbrev pub nodes_made : Space → Head → Write → Held → ℕ
nodes_made s head (Inserts point tag) file =
    length (fresh_of (rules s head.promote head.split) (record { id = file.live.count; tag = tag; point = point }) (tree_of file.nodes file.live))
nodes_made s head (Loads rows labels) file = node_count s rows labels

-- Why a file stands in the way of a write: there is no further generation; or, with some number of free pages given, the new nodes that
-- get none of them need more pages than a file may have.
abbrev pub Hinders : Space → Head → Held → Refusal → Write → Type 0
Hinders s head file refusal.Worn write = file.live.generation ≡ 2 ^ 48 - 1
Hinders s head file refusal.NoRoom write = (given : ℕ) × (2 ^ 24 < file.live.pages + (nodes_made s head write file - given))
Hinders s head file _ write = ⊥

-- nothing stands in the way of a command, or the file stands in the way of what it writes
abbrev pub IsHindrance : Space → Head → Held → Command → Option Refusal → Type 0
IsHindrance s head file c None = Unit {0}
IsHindrance s head file c (Some why) = MatchOption (write_of file.live.count c) ⊥ (Hinders s head file why)

-- the file after a write: the next generation, with the tree that VLDB's insertion or this project's bulk loading makes
pub record IsNextVersion (s : Space) (head : Head) (old new : Held) (write : Write) : Type 0 where
  pub generation : new.live.generation ≡ old.live.generation + 1
  pub tree : tree_of new.nodes new.live ≡ tree_after s head write old.live.count (tree_of old.nodes old.live)

-- the file after a command: the next version where it accepted objects, and else the same
abbrev pub IsVersionAfter : Space → Head → Held → Command → Bool → Held → Type 0
IsVersionAfter s head old c true new = MatchOption (write_of old.live.count c) ⊥ (IsNextVersion s head old new)
IsVersionAfter s head old c false new = new ≡ old

-- ---- turns

-- a command of a session and its outcome: its reply and the log of its query, what stood in its way, and the objects, the
-- cursors and the file after it
pub record Turn : Type 0 where
  pub answered : Answered
  pub why : Option Refusal
  pub state : State
  pub file : Held

-- what a turn is, from a state and a file on: its meaning, unless the file stands in the way; its log; and the file after it,
-- which is sound and has the objects
pub record IsTurn (setting : Setting) (head : Head) (state : State) (file : Held) (turn : Turn) : Type 0 where
  pub meaning : hindered turn.why state (step setting state turn.answered.command) ≡ record { reply = turn.answered.reply; state = turn.state }
  pub hindrance : IsHindrance setting.space head file turn.answered.command turn.why
  pub logged : HasLog setting.space file (answered_query setting.space turn.answered.command) turn.answered.log
  pub after : IsVersionAfter setting.space head file turn.answered.command (accepts turn.answered.reply) turn.file
  pub objects : HasObjectsOf setting.space turn.file turn.state.objects

-- turns, one after another
abbrev pub AreTurns : Setting → Head → State → Held → List Turn → Type 0
AreTurns setting head state file [] = Unit {0}
AreTurns setting head state file (t ∷ turns) = IsTurn setting head state file t × AreTurns setting head t.state t.file turns

-- the state and the file after turns
abbrev pub state_after : State → List Turn → State
state_after state [] = state
state_after state (t ∷ turns) = state_after t.state turns

abbrev pub file_after : Held → List Turn → Held
file_after file [] = file
file_after file (t ∷ turns) = file_after t.file turns

-- what their commands were answered
abbrev pub answers_of : List Turn → List Answered
answers_of turns = map (λ t. t.answered) turns
