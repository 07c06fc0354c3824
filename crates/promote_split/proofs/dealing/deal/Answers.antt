use Rattle.std.proofs.Common.{rules}
use Rattle.tree_growth.specs.declared.rules.Side.TheVariants.{Open}
use Rattle.tree_growth.specs.Dealing.{size}
use Rattle.tree_growth.specs.Dealing.{received}
use Rattle.promote_split.proofs.Least.{turn_next}
use Rattle.promote_split.proofs.dealing.deal.Goals as goal

pub loop-turn-preserved : goal.loop-turn-preserved
loop-turn-preserved c = record {
  own = search rules;
  other = search rules;
  dealt = rw (c.swap.ensures.x_after, c.swap.ensures.y_after, c.swap-in-loop-turn.ensures.x_after, c.swap-in-loop-turn.ensures.y_after)
      (turn_next (size c.args.matrix.now) c.loop-turn._turn
      (received c.args.matrix.now c.args.pair.a c.args.pair.b c.loop-turn.own Open c.loop-turn.side) (received c.args.matrix.now c.args.pair.a c.args.pair.b c.loop-turn.other Open c.loop-turn.next)
      c.loop-turn.sides _ _ (search rules) c.receive.ensures c.loop-turn.invariant.dealt);
}
