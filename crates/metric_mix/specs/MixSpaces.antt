-- The spaces that a program chooses from, by kind and dimension.
use Rattle.std.specs.Prelude.{◌≢◌, ◌≤◌, IsTrue, ℕ, ◌/◌, ◌%◌, ◌==◌, ◌&&◌, ◌||◌, Bool, true, List, codes, nat_le, if◌then◌else◌}
use Rattle.metric_laws.specs.Space.{Space, IsSpace}
use Rattle.vector_kinds.specs.Vectors.{is_vector, vector_space}
use Rattle.metric_mix.specs.Composed.{capped_space, joined_space}
use Rattle.metric_mix.specs.declared.joined.Joining.TheVariants.{Sum, Most}
use Rattle.metric_mix.specs.Permutations.{kendall_space}
use Rattle.metric_mix.specs.Sets.{hausdorff_space}

-- whether a point of this kind is two halves: L1 measures the first half, and Hamming the second
abbrev pub has_halves : ℕ → Bool
has_halves kind = (kind == 6) || (kind == 7)

-- whether the kind has a space of dimension `dim`
abbrev pub is_valid : ℕ → ℕ → Bool
is_valid kind dim = nat_le 1 dim && nat_le dim 64 && (if has_halves kind then dim % 2 == 0 else true)

-- 1 Hamming, 2 L1, 3 the maximum, 4 Kendall, 5 Hausdorff, 6 the sum and 7 the greater of both halves' distances, 8 L1 up to 65535
abbrev pub mix_parts : ℕ → ℕ → Space
mix_parts kind dim =
    if kind == 4 then kendall_space dim
    else (if kind == 5 then hausdorff_space dim
    else (if kind == 6 then joined_space Sum (vector_space 2 (dim / 2)) (vector_space 1 (dim / 2))
    else (if kind == 7 then joined_space Most (vector_space 2 (dim / 2)) (vector_space 1 (dim / 2))
    else (if kind == 8 then capped_space (vector_space 2 dim) 65535
    else vector_space kind dim))))

-- the space of a kind and a dimension
abbrev pub mix_space : ℕ → ℕ → Space
mix_space kind dim = record { dimension = dim; is_point = (mix_parts kind dim).is_point; dist = (mix_parts kind dim).dist }

-- the name of a kind
abbrev pub mix_name : ℕ → List ℕ
mix_name kind =
    if kind == 1 then codes "hamming"
    else (if kind == 2 then codes "l1"
    else (if kind == 3 then codes "max"
    else (if kind == 4 then codes "kendall"
    else (if kind == 5 then codes "hausdorff"
    else (if kind == 6 then codes "mixsum"
    else (if kind == 7 then codes "mixmax"
    else codes "l1cap"))))))

-- each kind from 1 to 8 has a space of each valid dimension
abbrev pub MixSpacesAreSpaces : Type 0
MixSpacesAreSpaces = (kind dim : ℕ) → 1 ≤ kind → kind ≤ 8 → IsTrue (is_valid kind dim) → IsSpace (mix_space kind dim)

-- except for permutations and sets, each list of `dim` 32-bit numbers is a point
abbrev pub VectorsFit : Type 0
VectorsFit =
    (kind dim : ℕ) → 1 ≤ kind → kind ≤ 8 → IsTrue (is_valid kind dim) → kind ≢ 4 → kind ≢ 5 →
    (p : List ℕ) → IsTrue (is_vector dim p) → IsTrue ((mix_space kind dim).is_point p)
