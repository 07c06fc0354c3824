use Rattle.std.proofs.Common.{◌≡◌, ◌<◌, ℕ, length}
use Rattle.std.specs.Prelude.{All, IsTrue, slice_index}
use Rattle.vector_kinds.specs.Vectors.{vector_space}
use Rattle.test_growth.proofs.groups.line.Given as goal

abbrev pub invariant-loop-i : goal.invariant-loop-i
invariant-loop-i l =
    (l.points.dimension ≡ 1) × (length l.points.points ≡ l.i) × (length l.set.items ≡ l.i) × All (λ p. IsTrue ((vector_space 2 1).is_point p)) l.points.points
    × ((k : ℕ) → k < l.i → slice_index l.set.items k ≡ k)
