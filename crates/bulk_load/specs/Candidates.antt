-- The objects that a small group may receive.
use Rattle.std.specs.Prelude.{◌≡◌, ℕ, ◌+◌, ◌≤◌, Bool, List, [], ◌∷◌, if◌then◌else◌, nat_lt, ◌==◌, ◌&&◌, ◌||◌, slice_index}
use Rattle.tree_growth.specs.declared.rules.Member.{Member}
use Rattle.tree_growth.specs.Groups.{Far, in_group, is_candidate}

-- the counts are those of the groups' members
abbrev pub AreCounts : List ℕ → List Member → Type 0
AreCounts counts all = (group : ℕ) → slice_index counts group ≡ in_group group all

-- the candidates for a group from place k on, as their distances from its seed and their places
abbrev pub candidates_from : Far → ℕ → ℕ → List Member → ℕ → List Member → List (ℕ × ℕ)
candidates_from far least a all k [] = []
candidates_from far least a all k (p ∷ ps) = if is_candidate least all p then (far k a, k) ∷ candidates_from far least a all
    (k + 1) ps else candidates_from far least a all (k + 1) ps

-- one is nearer than another, or as near and at a lower place
abbrev pub is_nearer : ℕ × ℕ → ℕ × ℕ → Bool
is_nearer x y = nat_lt x.0 y.0 || ((x.0 == y.0) && nat_lt x.1 y.1)

-- one comes no later than another, by distance and then by place
pub record NotAfter (x y : ℕ × ℕ) : Type 0 where
  pub near : x.0 ≤ y.0
  pub low : y.0 ≤ x.0 → x.1 ≤ y.1
