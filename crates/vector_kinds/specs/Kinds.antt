-- Which of the spaces a value names.
use Rattle.std.specs.Prelude.{ℕ}
use Rattle.vector_kinds.specs.declared.space.Space.{Space}
use Rattle.vector_kinds.specs.declared.space.Space.TheVariants.{Hamming, L1, Max}

-- 1 Hamming, 2 L1, 3 the maximum
abbrev pub kind_of : Space → ℕ
kind_of (Hamming m) = 1
kind_of (L1 m) = 2
kind_of (Max m) = 3

-- the number of coordinates
abbrev pub dim_of : Space → ℕ
dim_of (Hamming m) = m.dim
dim_of (L1 m) = m.dim
dim_of (Max m) = m.dim
