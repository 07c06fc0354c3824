use Rattle.std.proofs.Common.{sym, ◌∙◌, ap, subst, Some, refl}
use Rattle.node_page.specs.Slots.{SpellsSlot}
use Rattle.node_page.proofs.SlotLaws.{slot_is, spells_by_rest, rest_by_test, test_by_rest}
use Rattle.node_page.proofs.slot.decode_slot.Goals as goal

pub returns-then-not-is_clear-clause-only : goal.returns-then-not-is_clear-clause-only
returns-then-not-is_clear-clause-only c slot spells =
    let clash = test_by_rest c.args.page.now spells.rest in
    let test = c.is_clear.ensures in
    let failed = c.if-not-is_clear.true in
    absurd cc

pub returns-then-not-is_clear-clause-none : goal.returns-then-not-is_clear-clause-none
returns-then-not-is_clear-clause-none c = (
  λ none rest. (let clash = test_by_rest c.args.page.now rest in
      let test = c.is_clear.ensures in
      let failed = c.if-not-is_clear.true in
      absurd cc),
  λ differs. refl,
)

pub returns-clause-some : goal.returns-clause-some
returns-clause-some c = subst (SpellsSlot c.args.page.now) (sym c.fields_of.ensures) (spells_by_rest c.args.page.now (rest_by_test c.args.page.now (sym c.is_clear.ensures ∙ c.if-not-is_clear.false)))

pub returns-clause-only : goal.returns-clause-only
returns-clause-only c slot spells = ap Some (c.fields_of.ensures ∙ slot_is c.args.page.now slot spells)

pub returns-clause-none : goal.returns-clause-none
returns-clause-none c = (λ none. absurd cc, λ differs. absurd (differs (rest_by_test c.args.page.now (sym c.is_clear.ensures ∙ c.if-not-is_clear.false))))
