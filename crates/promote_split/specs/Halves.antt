-- What a split gives.
use Rattle.std.specs.Prelude.{◌≡◌, ◌≤◌, ℕ, List, map}
use Rattle.std.specs.List.{AllByRecursion}
use Rattle.metric_laws.specs.Space.{Space, bound}
use Rattle.tree_growth.specs.Dealing.{Ball, Table, row, partitioned, promoted, group_radius, split_of, point_at}
use Rattle.tree_growth.specs.Insertion.{taken, left}
use Rattle.tree_growth.specs.declared.rules.Side.{Side}
use Rattle.tree_growth.specs.declared.rules.Side.TheVariants.{First, Second}
use Rattle.promote_split.specs.Steps.{half_entries}
use Rattle.promote_split.specs.declared.halves.Half.{Half}
use Rattle.promote_split.specs.declared.halves.Halves.{Halves}

-- a half: its point and radius are those of its ball, and it has the entries `es`, each with its distance to the half's point
pub record IsHalf {E : Type 0} (s : Space) (ball : E → Ball) (set : E → ℕ → E) (b : Ball) (es : List E) (h : Half E) : Type 0 where
  pub point_is : h.point ≡ b.0
  pub radius_is : h.radius ≡ b.1
  pub entries_are : h.entries ≡ map (λ e. set e (s.dist (ball e).0 b.0)) es

-- the halves are those of the split of the entries: the first half has the entries that the split takes, the second one
-- those that it leaves, each in the old order
abbrev pub IsSplit : {E : Type 0} → Space → (E → Ball) → (E → ℕ → E) → ℕ → ℕ → ℕ → List E → Halves E → Type 0
IsSplit s ball set promote split least es h =
    let w = split_of s promote split least (map ball es) in
    IsHalf s ball set w.first (taken w.mask es) h.first × IsHalf s ball set w.second (left w.mask es) h.second

-- no entry is farther from the point than the greatest distance
abbrev pub AreNear : {E : Type 0} → Space → (E → Ball) → List E → List ℕ → Type 0
AreNear s ball es point = AllByRecursion (λ e. s.dist (ball e).0 point ≤ bound) es

-- a half by the node's table
pub record IsHalfBy {E : Type 0} (ball : E → Ball) (set : E → ℕ → E) (t : Table) (p : ℕ) (on : Side) (sides : List Side)
    (es : List E) (h : Half E) : Type 0 where
  pub point_is : h.point ≡ point_at (map ball es) p
  pub radius_is : h.radius ≡ group_radius t p on sides
  pub entries_are : h.entries ≡ half_entries set on (row t p) sides es

-- the halves by the node's table
abbrev pub IsSplitBy : {E : Type 0} → (E → Ball) → (E → ℕ → E) → Table → ℕ → ℕ → ℕ → List E → Halves E → Type 0
IsSplitBy ball set t promote split least es h =
    let p = promoted t promote split least in
    let sides = partitioned t p.0 p.1 split least in
    IsHalfBy ball set t p.0 First sides es h.first × IsHalfBy ball set t p.1 Second sides es h.second
