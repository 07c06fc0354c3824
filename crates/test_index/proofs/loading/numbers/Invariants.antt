use Rattle.std.proofs.Common.{◌≡◌, length}
use Rattle.std.specs.Prelude.{All, IsTrue}
use Rattle.test_index.proofs.loading.numbers.Given as goal

abbrev pub invariant-loop-x : goal.invariant-loop-x
invariant-loop-x g l = (l.rows.dimension ≡ 1) × (length l.rows.points ≡ l.x) × All (λ p. IsTrue ((g.M.Metric.space l.metric).is_point p)) l.rows.points
