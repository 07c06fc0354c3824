-- What nothing stands in the way of.
use Rattle.std.specs.Prelude.{◌≡◌, List, [], ◌∷◌, length, Option, Some, None, refl}
use Rattle.std.proofs.Common.{ap, arith}
use Rattle.std.specs.List.{AllByRecursion}
use Rattle.rows_text.specs.declared.command.Command.{Command}
use Rattle.rows_text.specs.declared.refusal.Refusal.{Refusal}
use Rattle.rows_text.specs.declared.reply.Reply.{Reply}
use Rattle.rows_text.specs.Meaning.{Setting, State, step, replies, after, hindered_replies, hindered_after}

pub unhindered : (setting : Setting) (state : State) (commands : List Command) (whys : List (Option Refusal)) → length whys ≡ length commands → AllByRecursion (λ why. why ≡ None) whys →
    (hindered_replies setting state commands whys ≡ replies setting state commands) × (hindered_after setting state commands whys ≡ after setting state commands)
unhindered setting state [] whys long none = (refl, refl)
unhindered setting state (c ∷ commands) [] long none = absurd (omega arith)
unhindered setting state (c ∷ commands) (Some why ∷ whys) long none = absurd (cc (none.0))
unhindered setting state (c ∷ commands) (None ∷ whys) long none =
    let rest = unhindered setting (step setting state c).state commands whys (omega arith) none.1 in
    (ap (λ (rs : List Reply). (step setting state c).reply ∷ rs) rest.0, rest.1)
