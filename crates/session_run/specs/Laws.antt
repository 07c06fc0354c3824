-- What the turns of a session are.
use Rattle.std.specs.Prelude.{◌≡◌, List, None}
use Rattle.std.specs.List.{AllByRecursion}
use Rattle.node_page.specs.declared.head.Head.{Head}
use Rattle.rows_text.specs.Meaning.{Setting, State, after, replies}
use Rattle.answer_texts.specs.Answered.{commands_of, replies_of}
use Rattle.answer_texts.specs.Asked.{Held}
use Rattle.session_run.specs.Turns.{AreTurns, Turn, answers_of, state_after}

-- where the file stands in no command's way, the replies of turns are those of a plain list, and so is the state after them
abbrev pub TurnsAreTheirMeaning : Type 0
TurnsAreTheirMeaning =
    (setting : Setting) (head : Head) (state : State) (file : Held) (turns : List Turn) →
    AreTurns setting head state file turns → AllByRecursion (λ t. t.why ≡ None) turns →
    (replies_of (answers_of turns) ≡ replies setting state (commands_of (answers_of turns)))
    × (state_after state turns ≡ after setting state (commands_of (answers_of turns)))
