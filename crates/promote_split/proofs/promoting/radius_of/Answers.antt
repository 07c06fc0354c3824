use Rattle.std.proofs.Common.{rules, length}
use Rattle.tree_growth.specs.Dealing.{is_on}
use Rattle.tree_growth.specs.Dealing.{side_at, reach}
use Rattle.promote_split.proofs.Least.{greatest_more}
use Rattle.promote_split.proofs.promoting.radius_of.Goals as goal

pub loop-i-preserved : goal.loop-i-preserved
loop-i-preserved c = record {
  radius = greatest_more (reach c.args.matrix.now c.args.to) (λ i. is_on c.args.on (side_at c.args.sides.now i)) c.loop-i.i (length c.args.sides.now) c.loop-i.radius _ _
      (search rules) (rw (c.row-row.ensures.row, c.radii-radii.ensures.radii) at c.widen-radius.ensures.radius) c.loop-i.invariant.radius;
  within = c.widen-radius.ensures.within c.loop-i.invariant.within;
}
