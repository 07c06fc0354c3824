-- The turns of a session are their meaning.
use Rattle.std.proofs.Common.{◌≡◌, List, [], ◌∷◌, refl, sym, ap, ◌∙◌}
use Rattle.rows_text.specs.declared.reply.Reply.{Reply}
use Rattle.rows_text.specs.Meaning.{Step, after, replies, step}
use Rattle.session_run.specs.Laws.{TurnsAreTheirMeaning}
use Rattle.answer_texts.specs.Answered.{commands_of}
use Rattle.session_run.specs.Turns.{answers_of}

pub turns_are_their_meaning : TurnsAreTheirMeaning
turns_are_their_meaning setting head state file [] are none = (refl, refl)
turns_are_their_meaning setting head state file (t ∷ turns) are none =
    let one : step setting state t.answered.command ≡ record { reply = t.answered.reply; state = t.state } = rw none.0 at are.0.meaning in
    let more = turns_are_their_meaning setting head t.state t.file turns are.1 none.1 in (
      ap (λ (r : List Reply). t.answered.reply ∷ r) more.0
          ∙ ap (λ (done : Step). done.reply ∷ replies setting done.state (commands_of (answers_of turns))) (sym one),
      more.1 ∙ ap (λ (done : Step). after setting done.state (commands_of (answers_of turns))) (sym one),
    )
