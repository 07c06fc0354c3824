-- A run is its steps.
use Rattle.std.proofs.Common.{◌≡◌, List, [], ◌∷◌, ◌++◌, refl, ap}
use Rattle.rows_text.specs.declared.command.Command.{Command}
use Rattle.rows_text.specs.declared.reply.Reply.{Reply}
use Rattle.rows_text.specs.Meaning.{Setting, State, step, replies, after}

pub replies_append : (setting : Setting) (state : State) (first second : List Command) →
    replies setting state (first ++ second) ≡ replies setting state first ++ replies setting (after setting state first) second
replies_append setting state [] second = refl
replies_append setting state (c ∷ first) second =
    ap (λ (rs : List Reply). (step setting state c).reply ∷ rs) (replies_append setting (step setting state c).state first second)

pub after_append : (setting : Setting) (state : State) (first second : List Command) →
    after setting state (first ++ second) ≡ after setting (after setting state first) second
after_append setting state [] second = refl
after_append setting state (c ∷ first) second = after_append setting (step setting state c).state first second
