use Rattle.std.proofs.Common.{sym, ◌∙◌}
use Rattle.node_page.proofs.Listing.{count_few}
use Rattle.node_page.proofs.node.fault_of.Goals as goal

pub are_near-requires-clause-most : goal.are_near-requires-clause-most
are_near-requires-clause-most c = count_few _ _ _ (sym c.is_count.ensures ∙ c.if-not-is_count.false)

pub is_rest_zero-requires-clause-most : goal.is_rest_zero-requires-clause-most
is_rest_zero-requires-clause-most c = count_few _ _ _ (sym c.is_count.ensures ∙ c.if-not-is_count.false)
