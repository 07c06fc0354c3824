use Rattle.std.proofs.Common.{◌≡◌, length}
use Rattle.test_growth.proofs.building.tags_of.Given as goal

abbrev pub invariant-loop-row : goal.invariant-loop-row
invariant-loop-row l = length l.tags.items ≡ l.row
