-- A value names a valid kind and dimension, and its space is a space.
use Rattle.std.specs.Prelude.{◌≡◌, ℕ, ◌≤◌, ◌%◌, ◌==◌, ◌&&◌, true, refl, IsTrue, nat_le}
use Rattle.std.proofs.Common.{arith}
use Rattle.std.proofs.lemmas.Bool.{and_from, eq-eqb, le-leb}
use Rattle.metric_laws.specs.Space.{IsSpace}
use Rattle.vector_kinds.specs.declared.space.Space.TheVariants.{Hamming, L1, Max}
use Rattle.metric_mix.specs.declared.mix_space.MixSpace.{MixSpace}
use Rattle.metric_mix.specs.declared.mix_space.MixSpace.TheVariants.{Plain, Kendall, Hausdorff, MixSum, MixMax, L1Cap}
use Rattle.metric_mix.specs.MixSpaces.{is_valid, mix_space}
use Rattle.metric_mix.specs.MixKinds.{mix_kind, mix_dim}
use Rattle.metric_mix.specs.MixLaws.{valid_axioms}

plain_valid : (kind dim : ℕ) → 1 ≤ dim → dim ≤ 64 → (nat_le 1 dim && nat_le dim 64 && true) ≡ true
plain_valid kind dim some few =
    and_from (nat_le 1 dim && nat_le dim 64) true (and_from (nat_le 1 dim) (nat_le dim 64) (le-leb 1 dim some) (le-leb dim 64 few)) refl

even_valid : (dim : ℕ) → 1 ≤ dim → dim ≤ 64 → dim % 2 ≡ 0 → (nat_le 1 dim && nat_le dim 64 && (dim % 2 == 0)) ≡ true
even_valid dim some few even =
    and_from (nat_le 1 dim && nat_le dim 64) (dim % 2 == 0)
    (and_from (nat_le 1 dim) (nat_le dim 64) (le-leb 1 dim some) (le-leb dim 64 few)) (eq-eqb (dim % 2) 0 even)

pub mix_valid : (s : MixSpace) → IsTrue (is_valid (mix_kind s) (mix_dim s))
mix_valid (Plain (Hamming m)) = plain_valid 1 m.dim m.some m.few
mix_valid (Plain (L1 m)) = plain_valid 2 m.dim m.some m.few
mix_valid (Plain (Max m)) = plain_valid 3 m.dim m.some m.few
mix_valid (Kendall m) = plain_valid 4 m.dim m.some m.few
mix_valid (Hausdorff m) = plain_valid 5 m.dim m.some m.few
mix_valid (MixSum h) = even_valid h.dim h.some h.few h.even
mix_valid (MixMax h) = even_valid h.dim h.some h.few h.even
mix_valid (L1Cap m) = plain_valid 8 m.dim m.some m.few

pub mix_low : (s : MixSpace) → (1 ≤ mix_kind s) × (mix_kind s ≤ 8)
mix_low (Plain (Hamming m)) = (omega arith, omega arith)
mix_low (Plain (L1 m)) = (omega arith, omega arith)
mix_low (Plain (Max m)) = (omega arith, omega arith)
mix_low (Kendall m) = (omega arith, omega arith)
mix_low (Hausdorff m) = (omega arith, omega arith)
mix_low (MixSum h) = (omega arith, omega arith)
mix_low (MixMax h) = (omega arith, omega arith)
mix_low (L1Cap m) = (omega arith, omega arith)

pub mix_axioms : (s : MixSpace) → IsSpace (mix_space (mix_kind s) (mix_dim s))
mix_axioms s = valid_axioms (mix_kind s) (mix_dim s) (mix_low s).0 (mix_low s).1 (mix_valid s)
