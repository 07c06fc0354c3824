use Rattle.std.proofs.Common.{◌≡◌, ◌-◌, map}
use Rattle.std.specs.List.{range_with_len}
use Rattle.tree_growth.specs.Dealing.{size, least_from}
use Rattle.tree_growth.specs.Dealing.{pair_cost, pairs_with, IsPair}
use Rattle.promote_split.proofs.promoting.try_with.Given as goal

abbrev pub invariant-loop-b : goal.invariant-loop-b
invariant-loop-b l = record {
  pair : least_from (pair_cost l.matrix l.policy.promote l.policy.split l.least) l.best.pair (map (λ b. (l.a, b)) (range_with_len l.b (size l.matrix - l.b)))
      ≡ least_from (pair_cost l.matrix l.policy.promote l.policy.split l.least) l.fn.best.pair (pairs_with (size l.matrix) l.a);
  cost : l.best.cost ≡ pair_cost l.matrix l.policy.promote l.policy.split l.least l.best.pair;
  low : IsPair (size l.matrix) l.fn.best.pair → IsPair (size l.matrix) l.best.pair;
}
