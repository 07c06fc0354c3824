-- What each command does to a list of objects and to the open cursors, and what it is answered.
use Rattle.std.specs.Prelude.{◌≡◌, ℕ, zero, suc, ◌+◌, Bool, true, false, List, [], ◌∷◌, ◌++◌, length, map, take, drop, filter, find, not, ◌==◌, nat_lt, slice_index_or, Option, Some, None, if◌then◌else◌}
use Rattle.std.specs.List.{AllByRecursion, list_all}
use Rattle.metric_laws.specs.Space.{Space}
use Rattle.scan_model.specs.declared.hit.Hit.{Hit}
use Rattle.scan_model.specs.Scan.{range_hits, nearest_hits}
use Rattle.rows_text.specs.declared.command.Command.{Command}
use Rattle.rows_text.specs.declared.command.Command.TheVariants as command
use Rattle.rows_text.specs.declared.refusal.Refusal.{Refusal}
use Rattle.rows_text.specs.declared.refusal.Refusal.TheVariants as refusal
use Rattle.rows_text.specs.declared.reply.Reply.{Reply}
use Rattle.rows_text.specs.declared.reply.Reply.TheVariants as reply

-- the objects accepted so far: the point and the tag of the object id stand at place id
pub record Holdings : Type 0 where
  pub points : List (List ℕ)
  pub tags : List ℕ

-- an open cursor: its number, and the hits that it has still to give, with their tags
pub record Cursor : Type 0 where
  pub number : ℕ
  pub hits : List Hit
  pub tags : List ℕ

-- the objects, the open cursors, and the number of the next cursor
pub record State : Type 0 where
  pub objects : Holdings
  pub cursors : List Cursor
  pub next : ℕ

-- the space of the points, and how many objects there may be
pub record Setting : Type 0 where
  pub space : Space
  pub limit : ℕ

-- a reply, and the state after it
pub record Step : Type 0 where
  pub reply : Reply
  pub state : State

-- no object, no cursor
abbrev pub nothing_yet : State
nothing_yet = record { objects = record { points = []; tags = [] }; cursors = []; next = 0 }

-- a refusal changes nothing
abbrev pub refused : State → Refusal → Step
refused state why = record { reply = reply.Refused why; state = state }

-- the numbers from 0 on: tags that are ids
abbrev pub numbers_from : ℕ → ℕ → List ℕ
numbers_from first zero = []
numbers_from first (suc n) = first ∷ numbers_from (first + 1) n

-- whether each point of a command is a point of the space
abbrev pub has_points_of : Space → Command → Bool
has_points_of s (command.Insert p) = s.is_point p
has_points_of s (command.TagInsert tag p) = s.is_point p
has_points_of s (command.Load rows) = list_all s.is_point rows.points
has_points_of s (command.TagLoad tags rows) = list_all s.is_point rows.points
has_points_of s (command.Range r q) = s.is_point q
has_points_of s (command.Nearest k q) = s.is_point q
has_points_of s (command.Cursor q) = s.is_point q
has_points_of s command.Count = true
has_points_of s (command.Bad why) = true
has_points_of s (command.Next cursor n) = true
has_points_of s (command.Close cursor) = true

-- one object more
abbrev pub insert_step : ℕ → State → List ℕ → ℕ → Step
insert_step limit state p tag =
    if nat_lt (length state.objects.points) limit
    then record {
      reply = reply.Id (length state.objects.points);
      state = record state { objects = record { points = state.objects.points ++ p ∷ []; tags = state.objects.tags ++ tag ∷ [] } };
    }
    else refused state refusal.Full

-- all objects at once
abbrev pub load_step : ℕ → State → List (List ℕ) → List ℕ → Step
load_step limit state points tags =
    if nat_lt 0 (length state.objects.points) then refused state refusal.NotEmpty
    else if nat_lt limit (length points) then refused state refusal.Full
    else record { reply = reply.Loaded (length points); state = record state { objects = record { points = points; tags = tags } } }

-- the tag of each hit
abbrev pub tags_of : Holdings → List Hit → List ℕ
tags_of objects hits = map (λ h. slice_index_or objects.tags h.id 0) hits

-- the hits of a query, with their tags
abbrev pub hits_reply : Holdings → List Hit → Reply
hits_reply objects hits = reply.Hits hits (tags_of objects hits)

-- how many cursors may be open at once
abbrev pub most_cursors : ℕ
most_cursors = 16

-- a new cursor has to give all objects, from the nearest on
abbrev pub cursor_over : Space → State → List ℕ → Cursor
cursor_over s state q =
    let hits = nearest_hits s state.objects.points q (length state.objects.points) in
    record { number = state.next; hits = hits; tags = tags_of state.objects hits }

abbrev pub cursor_step : Space → State → List ℕ → Step
cursor_step s state q =
    if nat_lt (length state.cursors) most_cursors
    then record { reply = reply.Cursor state.next; state = record state { cursors = state.cursors ++ cursor_over s state q ∷ []; next = state.next + 1 } }
    else refused state refusal.Cursors

-- the open cursor with the number `number`
abbrev pub cursor_named : ℕ → State → Option Cursor
cursor_named number state = find (λ c. c.number == number) state.cursors

-- a cursor after its next n hits, where it has the number `number`
abbrev pub advanced : ℕ → ℕ → Cursor → Cursor
advanced number n c = if c.number == number then record c { hits = drop n c.hits; tags = drop n c.tags } else c

abbrev pub next_from : State → ℕ → ℕ → Option Cursor → Step
next_from state number n None = refused state refusal.NoCursor
next_from state number n (Some c) = record {
  reply = reply.Next (take n c.hits) (take n c.tags);
  state = record state { cursors = map (advanced number n) state.cursors };
}

abbrev pub close_from : State → ℕ → Option Cursor → Step
close_from state number None = refused state refusal.NoCursor
close_from state number (Some c) = record {
  reply = reply.Closed number;
  state = record state { cursors = filter (λ other. not (other.number == number)) state.cursors };
}

-- what a command does, where its points are points of the space
abbrev pub execute : Setting → State → Command → Step
execute setting state (command.Insert p) = insert_step setting.limit state p (length state.objects.points)
execute setting state (command.TagInsert tag p) = insert_step setting.limit state p tag
execute setting state (command.Load rows) = load_step setting.limit state rows.points (numbers_from 0 (length rows.points))
execute setting state (command.TagLoad tags rows) = load_step setting.limit state rows.points tags
execute setting state (command.Range r q) = record { reply = hits_reply state.objects (range_hits setting.space state.objects.points q r); state = state }
execute setting state (command.Nearest k q) = record { reply = hits_reply state.objects (nearest_hits setting.space state.objects.points q k); state = state }
execute setting state command.Count = record { reply = reply.Count (length state.objects.points); state = state }
execute setting state (command.Bad why) = refused state why
execute setting state (command.Cursor q) = cursor_step setting.space state q
execute setting state (command.Next cursor n) = next_from state cursor n (cursor_named cursor state)
execute setting state (command.Close cursor) = close_from state cursor (cursor_named cursor state)

-- one command: a point that is not in the space is refused before all else
abbrev pub step : Setting → State → Command → Step
step setting state command = if has_points_of setting.space command then execute setting state command else refused state refusal.Unfit

-- the reply accepts objects
abbrev pub accepts : Reply → Bool
accepts (reply.Id id) = true
accepts (reply.Loaded count) = true
accepts other = false

-- Where a file has no room for new nodes, or no number for a further commit, a step that would accept objects is refused for that
-- reason, and changes nothing.
abbrev pub hindered : Option Refusal → State → Step → Step
hindered None state done = done
hindered (Some why) state done = if accepts done.reply then refused state why else done

-- the replies to commands, one after another
abbrev pub replies : Setting → State → List Command → List Reply
replies setting state [] = []
replies setting state (c ∷ commands) = (step setting state c).reply ∷ replies setting (step setting state c).state commands

-- the state after commands
abbrev pub after : Setting → State → List Command → State
after setting state [] = state
after setting state (c ∷ commands) = after setting (step setting state c).state commands

-- the replies to as many commands as there are reasons; each reason may stand in the way of its command
abbrev pub hindered_replies : Setting → State → List Command → List (Option Refusal) → List Reply
hindered_replies setting state [] whys = []
hindered_replies setting state (c ∷ commands) [] = []
hindered_replies setting state (c ∷ commands) (why ∷ whys) =
    let done = hindered why state (step setting state c) in done.reply ∷ hindered_replies setting done.state commands whys

-- the state after those commands
abbrev pub hindered_after : Setting → State → List Command → List (Option Refusal) → State
hindered_after setting state [] whys = state
hindered_after setting state (c ∷ commands) [] = state
hindered_after setting state (c ∷ commands) (why ∷ whys) = hindered_after setting (hindered why state (step setting state c)).state commands whys

-- where nothing stands in the way, replies and state are what the commands give
abbrev pub UnhinderedIsPlain : Type 0
UnhinderedIsPlain =
    (setting : Setting) (state : State) (commands : List Command) (whys : List (Option Refusal)) → length whys ≡ length commands →
    AllByRecursion (λ why. why ≡ None) whys →
    (hindered_replies setting state commands whys ≡ replies setting state commands)
    × (hindered_after setting state commands whys ≡ after setting state commands)

abbrev pub RunIsItsSteps : Type 0
RunIsItsSteps =
    (setting : Setting) (state : State) (first second : List Command) →
    (replies setting state (first ++ second) ≡ replies setting state first ++ replies setting (after setting state first) second)
    × (after setting state (first ++ second) ≡ after setting (after setting state first) second)

-- a reply with hits has a tag for each
abbrev pub TagsAre : Reply → Type 0
TagsAre (reply.Hits hits tags) = length tags ≡ length hits
TagsAre (reply.Next hits tags) = length tags ≡ length hits
TagsAre (reply.Id id) = Unit {0}
TagsAre (reply.Loaded count) = Unit {0}
TagsAre (reply.Pairs pairs) = Unit {0}
TagsAre (reply.Count count) = Unit {0}
TagsAre (reply.Refused why) = Unit {0}
TagsAre (reply.Cursor number) = Unit {0}
TagsAre (reply.Closed number) = Unit {0}
