use Rattle.std.proofs.Common.{get_or, refl, sym, ◌∙◌, arith}
use Rattle.tree_audit.proofs.Whole.{not_new}
use Rattle.tree_audit.proofs.parts.note_all.Goals as goal

pub returns-then-not-is_new-clause-none : goal.returns-then-not-is_new-clause-none
returns-then-not-is_new-clause-none c = λ is new.
    not_new c.args.met.now c.args.numbers.now c.loop-number.number-index (get_or c.args.numbers.now c.loop-number.number-index 0) (omega arith) refl
    (rw (← c.loop-number.invariant.met, ← c.loop-number.invariant.limit) (sym c.is_new.ensures ∙ c.if-not-is_new.true)) new
