use Rattle.std.proofs.Common.{◌≡◌, length}
use Rattle.test_growth.proofs.work.line.Given as goal

abbrev pub invariant-loop-x : goal.invariant-loop-x
invariant-loop-x l = (l.points.dimension ≡ 1) × (length l.points.points ≡ l.x)
