use Rattle.std.proofs.Common.{rules, ◌∙◌}
use Rattle.std.proofs.lemmas.List.Filters.{dedup_is}
use Rattle.std.proofs.lemmas.List.Sorted.{answers_always}
use Rattle.log_model.specs.InOrder.{pair_before}
use Rattle.log_model.proofs.Orders.{pair_order}
use Rattle.log_model.proofs.Sorting.{sorted_in_order, sorted_pairs}
use Rattle.log_model.proofs.answering.put_pairs_in_order.Goals as goal

pub returns : goal.returns
returns c =
    dedup_is _ _ _ c.dedup.ensures.filtered
    ∙ sorted_in_order pair_before pair_order _ (λ x y h. search rules) (λ x. search rules) _ _ c.sort_unstable_by_key.ensures.permutation
    (sorted_pairs _ (c.sort_unstable_by_key.ensures.sorted (λ p. (p.left, p.right, p.dist)) (answers_always _ _ _ (λ f a r f' k. search rules))))
