-- Spaces made from other spaces.
use Rattle.std.specs.Prelude.{ℕ, ◌+◌, ◌&&◌, Bool, List, take, drop, min, max}
use Rattle.metric_laws.specs.Space.{Space}
use Rattle.metric_laws.specs.Pruning.{capped}
use Rattle.metric_mix.specs.declared.joined.Joining.{Joining}
use Rattle.metric_mix.specs.declared.joined.Joining.TheVariants.{Sum, Most}

-- the same points, with no distance above `most`
abbrev pub capped_space : Space → ℕ → Space
capped_space s most = record { dimension = s.dimension; is_point = s.is_point; dist = λ a b. min (s.dist a b) most }

-- whether a point is a point of `s` followed by a point of `t`
abbrev pub fits_both : Space → Space → List ℕ → Bool
fits_both s t p = s.is_point (take s.dimension p) && t.is_point (drop s.dimension p)

-- the distance that two distances become: their sum, at most the bound, or the greater of both
abbrev pub joined_dist : Joining → ℕ → ℕ → ℕ
joined_dist Sum m n = capped m n
joined_dist Most m n = max m n

-- the points of `s` followed by points of `t`, with the joined distances of both parts
abbrev pub joined_space : Joining → Space → Space → Space
joined_space joining s t = record {
  dimension = s.dimension + t.dimension;
  is_point = fits_both s t;
  dist = λ a b. joined_dist joining (s.dist (take s.dimension a) (take s.dimension b)) (t.dist (drop s.dimension a) (drop s.dimension b));
}
