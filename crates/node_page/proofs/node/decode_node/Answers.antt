use Rattle.std.proofs.Common.{◌≡◌, inl, Some, None, Ok, sym, ◌∙◌, ap, subst}
use Rattle.node_page.specs.Nodes.{SpellsIn}
use Rattle.node_page.proofs.NodeLaws.{spells_by_none, none_by_spells, node_is, few_by_none, valid_by_spells}
use Rattle.node_page.proofs.node.decode_node.Goals as goal

pub returns-in-Some-clause-only : goal.returns-in-Some-clause-only
returns-in-Some-clause-only c node spells =
    let clash : Some c.in-Some.fault ≡ None = c.in-Some.ensures ∙ none_by_spells c.args.version c.args.dim c.args.page.now node spells in
    absurd cc

pub node_in-requires-clause-most : goal.node_in-requires-clause-most
node_in-requires-clause-most c = few_by_none c.args.version c.args.dim c.args.page.now (sym c.fault_of.ensures ∙ c.in_default.is)

pub returns-clause-ok : goal.returns-clause-ok
returns-clause-ok c = subst (SpellsIn c.args.version c.args.dim c.args.page.now) (sym c.in_ok-node_in.ensures) (spells_by_none c.args.version c.args.dim c.args.page.now (sym c.fault_of.ensures ∙ c.in_default.is))

pub returns-clause-only : goal.returns-clause-only
returns-clause-only c node spells = inl (ap Ok (c.in_ok-node_in.ensures ∙ node_is c.args.version c.args.dim c.args.page.now node spells))

pub returns-clause-valid : goal.returns-clause-valid
returns-clause-valid c =
    valid_by_spells c.args.version c.args.dim c.args.page.now c.in_ok-node_in.field-0
    (subst (SpellsIn c.args.version c.args.dim c.args.page.now) (sym c.in_ok-node_in.ensures) (spells_by_none c.args.version c.args.dim c.args.page.now (sym c.fault_of.ensures ∙ c.in_default.is)))
