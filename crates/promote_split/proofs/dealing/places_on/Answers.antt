use Rattle.std.proofs.Common.{length}
use Rattle.tree_growth.specs.Dealing.{is_on, side_at}
use Rattle.promote_split.proofs.Least.{filter_more}
use Rattle.promote_split.proofs.dealing.places_on.Goals as goal

pub loop-i-preserved : goal.loop-i-preserved
loop-i-preserved c =
    filter_more (λ i. is_on c.args.on (side_at c.args.sides.now i)) c.loop-i.i (length c.args.sides.now) c.loop-i.places.items _ _ c.loop-i-test.true c.in_ok-keep_place.ensures c.loop-i.invariant
