-- The law of turns.
use Rattle.std.specs.Prelude.{◌≡◌, ℕ, List, map}
use Rattle.std.specs.List.{AllByRecursion}
use Rattle.metric_laws.specs.Space.{Space}
use Rattle.rows_text.specs.Meaning.{replies}
use Rattle.answer_texts.specs.Answered.{Answered, commands_of, replies_of}
use Rattle.answer_texts.specs.Asked.{Held, state_of}
use Rattle.image_answers.specs.Outcomes.{IsTurn, as_reader}

-- the replies of turns are those of one run of their commands, each that would change something refused, on a plain list of the objects
abbrev pub TurnsAreOneRun : Type 0
TurnsAreOneRun =
    (s : Space) (limit : ℕ) (held : Held) (turns : List Answered) → AllByRecursion (IsTurn s held) turns →
    replies_of turns ≡ replies (record { space = s; limit = limit }) (state_of held) (map as_reader (commands_of turns))
