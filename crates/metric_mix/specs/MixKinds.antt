-- The space that a value names.
use Rattle.std.specs.Prelude.{ℕ}
use Rattle.vector_kinds.specs.Kinds.{kind_of, dim_of}
use Rattle.metric_mix.specs.declared.mix_space.MixSpace.{MixSpace}
use Rattle.metric_mix.specs.declared.mix_space.MixSpace.TheVariants.{Plain, Kendall, Hausdorff, MixSum, MixMax, L1Cap}

-- the kind, 1 to 8
abbrev pub mix_kind : MixSpace → ℕ
mix_kind (Plain s) = kind_of s
mix_kind (Kendall m) = 4
mix_kind (Hausdorff m) = 5
mix_kind (MixSum h) = 6
mix_kind (MixMax h) = 7
mix_kind (L1Cap m) = 8

-- the number of coordinates
abbrev pub mix_dim : MixSpace → ℕ
mix_dim (Plain s) = dim_of s
mix_dim (Kendall m) = m.dim
mix_dim (Hausdorff m) = m.dim
mix_dim (MixSum h) = h.dim
mix_dim (MixMax h) = h.dim
mix_dim (L1Cap m) = m.dim
