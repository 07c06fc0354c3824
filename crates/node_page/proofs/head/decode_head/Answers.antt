use Rattle.std.proofs.Common.{◌≡◌, Some, None, Ok, sym, ◌∙◌, ap, subst}
use Rattle.node_page.specs.Heads.{SpellsHead}
use Rattle.node_page.proofs.HeadLaws.{head_is, spells_by_none, no_head_fault}
use Rattle.node_page.proofs.head.decode_head.Goals as goal

pub returns-in-Some-clause-only : goal.returns-in-Some-clause-only
returns-in-Some-clause-only c head spells =
    let clash : Some c.in-Some.fault ≡ None = c.in-Some.ensures ∙ no_head_fault c.args.page.now head spells in
    absurd cc

pub returns-in-None-clause-ok : goal.returns-in-None-clause-ok
returns-in-None-clause-ok c = subst (SpellsHead c.args.page.now) (sym c.fields_of-head.ensures) (spells_by_none c.args.page.now (sym c.in-None.ensures))

pub returns-in-None-clause-only : goal.returns-in-None-clause-only
returns-in-None-clause-only c head spells = ap Ok (c.fields_of-head.ensures ∙ head_is c.args.page.now head spells)
