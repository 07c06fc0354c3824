use Rattle.std.proofs.Common.{refl, rules}
use Rattle.tree_growth.specs.Dealing.{size}
use Rattle.tree_growth.specs.Dealing.{pair_cost, IsPair}
use Rattle.promote_split.proofs.Least.{pair_more, cost_kept, pair_kept}
use Rattle.promote_split.proofs.promoting.try_with.Goals as goal

pub loop-b-preserved : goal.loop-b-preserved
loop-b-preserved c = record {
  pair = pair_more (pair_cost c.args.matrix.now c.args.policy.promote c.args.policy.split c.args.least) c.args.a c.loop-b.b (size c.args.matrix.now) c.loop-b.best.pair _ _
      (search rules) (rw c.loop-b.invariant.cost at c.in_ok-best.ensures.pair) c.loop-b.invariant.pair;
  cost = cost_kept (pair_cost c.args.matrix.now c.args.policy.promote c.args.policy.split c.args.least) c.loop-b.best.pair (c.args.a, c.loop-b.b) _ _ _ _
      refl c.loop-b.invariant.cost c.in_ok-best.ensures.pair c.in_ok-best.ensures.cost;
  low = λ (was : IsPair (size c.args.matrix.now) c.args.best.pair). pair_kept (IsPair (size c.args.matrix.now)) c.loop-b.best.pair (c.args.a, c.loop-b.b) _ _ c.in_ok-best.ensures.pair
      (search rules) (c.loop-b.invariant.low was);
}
