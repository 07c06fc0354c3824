-- The replies of turns.
use Rattle.std.proofs.Common.{◌≡◌, ℕ, Bool, true, false, List, [], ◌∷◌, map, refl, ap, ◌∙◌, sym}
use Rattle.std.specs.Prelude.{if◌then◌else◌}
use Rattle.std.specs.List.{AllByRecursion}
use Rattle.metric_laws.specs.Space.{Space}
use Rattle.rows_text.specs.declared.command.Command.{Command}
use Rattle.rows_text.specs.declared.command.Command.TheVariants as command
use Rattle.rows_text.specs.declared.refusal.Refusal.TheVariants as refusal
use Rattle.rows_text.specs.declared.reply.Reply.{Reply}
use Rattle.rows_text.specs.Meaning.{Setting, State, Step, refused, replies, step}
use Rattle.answer_texts.specs.Answered.{Answered, commands_of, replies_of}
use Rattle.answer_texts.specs.Asked.{Held, state_of}
use Rattle.image_answers.specs.Outcomes.{IsTurn, as_reader}

either_way : (b : Bool) (r : Reply) (state : State) → (let s : Step = if b then record { reply = r; state = state } else refused state refusal.Unfit in s.state) ≡ state
either_way true r state = refl
either_way false r state = refl

-- a reader changes nothing
pub still : (setting : Setting) (state : State) (c : Command) → (step setting state (as_reader c)).state ≡ state
still setting state (command.Insert p) = refl
still setting state (command.TagInsert tag p) = refl
still setting state (command.Load rows) = refl
still setting state (command.TagLoad tags rows) = refl
still setting state (command.Cursor q) = refl
still setting state (command.Next cursor n) = refl
still setting state (command.Close cursor) = refl
still setting state (command.Range r q) = either_way (setting.space.is_point q) _ state
still setting state (command.Nearest k q) = either_way (setting.space.is_point q) _ state
still setting state command.Count = refl
still setting state (command.Bad why) = refl

pub one_run : (s : Space) (limit : ℕ) (held : Held) (turns : List Answered) → AllByRecursion (IsTurn s held) turns →
    replies_of turns ≡ replies (record { space = s; limit = limit }) (state_of held) (map as_reader (commands_of turns))
one_run s limit held [] are = refl
one_run s limit held (t ∷ turns) are =
    ap (λ (r : Reply). r ∷ replies_of turns) (are.0.meaning limit)
    ∙ ap (λ (rs : List Reply). (step (record { space = s; limit = limit }) (state_of held) (as_reader t.command)).reply ∷ rs)
    (one_run s limit held turns are.1
    ∙ ap (λ (state : State). replies (record { space = s; limit = limit }) state (map as_reader (commands_of turns))) (sym (still (record { space = s; limit = limit }) (state_of held) t.command)))
