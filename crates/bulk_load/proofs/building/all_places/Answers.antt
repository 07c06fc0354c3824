use Rattle.bulk_load.proofs.Heights.{one_place}
use Rattle.bulk_load.proofs.building.all_places.Goals as goal

pub loop-row-preserved : goal.loop-row-preserved
loop-row-preserved c = one_place c.loop-row.row c.args.count c.loop-row.places.items _ _ c.loop-row-test.true c.in_ok-push.ensures.items c.loop-row.invariant
