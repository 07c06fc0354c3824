use Rattle.std.proofs.Common.{◌≡◌, ◌+◌, ◌-◌, ◌^◌, ◌<◌}
use Rattle.tree_growth.specs.Bulk.{height_from, height_of}
use Rattle.bulk_load.proofs.building.height_for.Given as goal

abbrev pub invariant-loop-room : goal.invariant-loop-room
invariant-loop-room l = record {
  room : l.room ≡ l.most ^ (l.height + 1);
  low : l.height < l.room;
  rest : height_from l.most l.count l.height (l.count - l.height) ≡ height_of l.most l.count;
}

abbrev pub decreases-loop-room : goal.decreases-loop-room
decreases-loop-room l = l.count - l.room
