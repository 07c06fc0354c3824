use Rattle.std.proofs.Common.{length, rules, slice_index_or}
use Rattle.tree_growth.specs.Dealing.{may_leave}
use Rattle.promote_split.proofs.Least.{least_more}
use Rattle.promote_split.proofs.dealing.nearest.Goals as goal

pub loop-i-preserved : goal.loop-i-preserved
loop-i-preserved c = record {
  low = search rules;
  nearest = least_more (λ k. slice_index_or c.args.row.now k 0) (may_leave c.args.pair.a c.args.pair.b c.args.from c.args.sides.now) c.loop-i.best _ c.loop-i.i (length c.args.sides.now) _
      c.loop-i-test.true c.consider-best.ensures.kept c.loop-i.invariant.nearest;
}
