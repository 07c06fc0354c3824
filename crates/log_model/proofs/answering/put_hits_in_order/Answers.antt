use Rattle.std.proofs.Common.{rules, ◌∙◌}
use Rattle.std.proofs.lemmas.List.Filters.{dedup_is}
use Rattle.log_model.specs.InOrder.{hit_before}
use Rattle.log_model.proofs.Orders.{hit_order}
use Rattle.log_model.proofs.Sorting.{sorted_in_order, sorted_hits}
use Rattle.log_model.proofs.answering.put_hits_in_order.Goals as goal

pub returns : goal.returns
returns c =
    dedup_is _ _ _ c.dedup.ensures.filtered
    ∙ sorted_in_order hit_before hit_order _ (λ x y h. search rules) (λ x. search rules) _ _ c.sort_unstable.ensures.permutation (sorted_hits _ c.sort_unstable.ensures.sorted)
