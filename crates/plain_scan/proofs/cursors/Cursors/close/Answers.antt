use Rattle.std.proofs.Common.{rules, ◌≡◌, ◌∙◌, true, sym, ap, subst}
use Rattle.std.specs.Prelude.{not, ◌==◌}
use Rattle.std.specs.Option.{is_some}
use Rattle.std.proofs.lemmas.Fn.{filter_same}
use Rattle.rows_text.specs.declared.reply.Reply.TheVariants.{Closed}
use Rattle.rows_text.specs.Meaning.{Cursor, Step, cursor_named, close_from}
use Rattle.plain_scan.specs.OpenCursors.{OpenCursors, with_cursors}
use Rattle.plain_scan.proofs.Closing.{closes, some_map}
use Rattle.plain_scan.proofs.cursors.Cursors.close.Goals as goal

pub returns-clause-step : goal.returns-clause-step
returns-clause-step c objects =
    let number = c.args.number in
    let before : OpenCursors = record { cursors = c.self.inside.open.items; next = c.self.inside.next } in
    let after : OpenCursors = record { cursors = c.retain.new.self.items; next = c.self.inside.next } in
    let closed : Step = record { reply = Closed number; state = with_cursors objects after } in
    let some : is_some (cursor_named number (with_cursors objects c.args.self.now)) ≡ true = ap is_some (sym c.cursor_named.ensures) ∙ some_map _ _ c.if-is_none.ensures in
    let some_before : is_some (cursor_named number (with_cursors objects before)) ≡ true =
    subst (λ (v : OpenCursors). is_some (cursor_named number (with_cursors objects v)) ≡ true) (sym c.self.view_is) some in
    subst (λ (v : OpenCursors). close_from (with_cursors objects v) number (cursor_named number (with_cursors objects v)) ≡ closed) c.self.view_is
    (closes (with_cursors objects before) number _ c.retain.new.self.items some_before
    (filter_same _ (λ (x : Cursor). not (x.number == number)) _ (λ x b f k. search rules) _ _ c.retain.ensures.filtered))
