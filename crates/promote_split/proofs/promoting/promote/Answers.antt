use Rattle.std.proofs.Common.{rules}
use Rattle.tree_growth.specs.Dealing.{size}
use Rattle.tree_growth.specs.Dealing.{pair_cost, pairs_with}
use Rattle.promote_split.proofs.Least.{pairs_more}
use Rattle.promote_split.proofs.promoting.promote.Goals as goal

pub loop-a-preserved : goal.loop-a-preserved
loop-a-preserved c = record {
  pair = pairs_more (pair_cost c.args.matrix.now c.args.policy.promote c.args.policy.split c.args.least) (pairs_with (size c.args.matrix.now)) c.loop-a.a (size c.args.matrix.now) c.loop-a.best.pair _ _
      (search rules) c.in_ok-best.ensures.pair c.loop-a.invariant.pair;
  cost = c.in_ok-best.ensures.cost;
  low = c.in_ok-best.ensures.low c.loop-a.invariant.low;
}
