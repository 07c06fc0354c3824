use Rattle.std.proofs.Common.{◌≡◌, ◌-◌}
use Rattle.std.specs.List.{range_with_len, flat_map}
use Rattle.tree_growth.specs.Dealing.{size, least_from}
use Rattle.tree_growth.specs.Dealing.{pair_cost, pairs_with, pairs, IsPair}
use Rattle.promote_split.proofs.promoting.promote.Given as goal

abbrev pub invariant-loop-a : goal.invariant-loop-a
invariant-loop-a l = record {
  pair : least_from (pair_cost l.matrix l.policy.promote l.policy.split l.least) l.best.pair (flat_map (pairs_with (size l.matrix)) (range_with_len l.a (size l.matrix - l.a)))
      ≡ least_from (pair_cost l.matrix l.policy.promote l.policy.split l.least) (0, 1) (pairs (size l.matrix));
  cost : l.best.cost ≡ pair_cost l.matrix l.policy.promote l.policy.split l.least l.best.pair;
  low : IsPair (size l.matrix) l.best.pair;
}
