use Rattle.std.proofs.Common.{◌≡◌, ◌++◌, ◌∷◌, [], List, ℕ, ap, ◌∙◌, arith, rules}
use Rattle.std.proofs.lemmas.Grind.{common_steps}
use Rattle.disk_model.specs.declared.entry.Entry.{Entry}
use Rattle.disk_model.specs.Memory.Record.{total, past_of}
use Rattle.disk_model.proofs.Entries.{total_push, past_of_push}
use Rattle.disk_model.proofs.record.Record.note.Goals as goal

pub invariant_of-self : goal.invariant_of-self
invariant_of-self c =
    let entries : c.push.new.self.items ≡ c.self.inside.entries.items ++ c.args.entry ∷ [] = grind (arith, common_steps) in
    let whole = ap total entries ∙ total_push c.self.inside.entries.items c.args.entry in
    record { whole = grind (arith, whole); entry_room = search rules; byte_room = search rules; used = grind arith }

pub returns-clause-past : goal.returns-clause-past
returns-clause-past c =
    let entries : c.push.new.self.items ≡ c.self.inside.entries.items ++ c.args.entry ∷ [] = grind (arith, common_steps) in
    let bytes : c.extend_from_slice.new.self.items ≡ c.self.inside.bytes.items ++ c.args.bytes.now = grind (arith, common_steps) in
    let past = past_of_push c.self.inside.entries.items c.self.inside.bytes.items c.args.entry c.args.bytes.now c.self.invariant.whole in
    ap (λ (es : List Entry). past_of es c.extend_from_slice.new.self.items) entries
    ∙ ap (λ (bs : List ℕ). past_of (c.self.inside.entries.items ++ c.args.entry ∷ []) bs) bytes
    ∙ rw (← c.self.view_is) past
