use Rattle.std.proofs.Common.{◌≡◌, ◌-◌, ◌++◌}
use Rattle.tree_growth.specs.Bulk.{places_from}
use Rattle.bulk_load.proofs.building.all_places.Given as goal

abbrev pub invariant-loop-row : goal.invariant-loop-row
invariant-loop-row l = l.places.items ++ places_from l.row (l.count - l.row) ≡ places_from 0 l.count
