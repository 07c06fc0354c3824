-- A cursor that is closed.
use Rattle.std.proofs.Common.{◌≡◌, ℕ, true, not, List, Option, Some, None, sym, refl}
use Rattle.std.specs.Prelude.{◌==◌, filter}
use Rattle.std.specs.Option.{is_some, option_map}
use Rattle.rows_text.specs.declared.reply.Reply.TheVariants.{Closed}
use Rattle.rows_text.specs.Meaning.{State, Cursor, close_from}

pub closes : (state : State) (number : ℕ) (found : Option Cursor) (cursors : List Cursor) → is_some found ≡ true →
    cursors ≡ filter (λ other. not (other.number == number)) state.cursors →
    close_from state number found ≡ record { reply = Closed number; state = record state { cursors = cursors } }
closes state number None cursors some kept = cc
closes state number (Some c) cursors some kept = λ i. record { reply = Closed number; state = record state { cursors = sym kept i } }

pub some_map : {A B : Type 0} (f : A → B) (o : Option A) → is_some o ≡ true → is_some (option_map f o) ≡ true
some_map f None some = some
some_map f (Some x) some = refl
