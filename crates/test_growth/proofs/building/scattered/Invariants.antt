use Rattle.std.proofs.Common.{◌≡◌, length}
use Rattle.std.specs.Prelude.{All, IsTrue}
use Rattle.vector_kinds.specs.Vectors.{vector_space}
use Rattle.test_growth.proofs.building.scattered.Given as goal

abbrev pub invariant-loop-row : goal.invariant-loop-row
invariant-loop-row l = (l.rows.dimension ≡ 1) × (length l.rows.points ≡ l.row) × All (λ p. IsTrue ((vector_space 2 1).is_point p)) l.rows.points
