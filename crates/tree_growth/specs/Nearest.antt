-- The group that bulk loading puts an object into.
use Rattle.std.specs.Prelude.{◌≡◌, ℕ, zero, suc, ◌+◌, ◌*◌, ◌/◌, ◌<◌, ◌≤◌, List, [], ◌∷◌, if◌then◌else◌, ◌==◌, ◌&&◌, not, slice_index_or, replicate}
use Rattle.tree_growth.specs.declared.rules.Member.{Member}
use Rattle.tree_growth.specs.Groups.{Far, placed_from, seeds_from, grouped, seed_of, member_of}

-- the group of each object before the small groups are filled up
abbrev pub placed : Far → ℕ → ℕ → ℕ → List Member
placed far room g n = placed_from far room 0 (seeds_from n g 0 g) 0 (replicate g 1) n

-- how many objects, without the seed, were put into group `a` before the object at place `k`
abbrev pub put_before : List Member → ℕ → ℕ → ℕ
put_before [] k a = 0
put_before (p ∷ ps) zero a = 0
put_before (p ∷ ps) (suc k) a = (if not p.is_seed && (p.group == a) then 1 else 0) + put_before ps k a

-- the number of objects in group `a` when the turn of the object at place `k` comes; the seeds are in their groups from the start
abbrev pub at_turn : List Member → ℕ → ℕ → ℕ
at_turn ps k a = 1 + put_before ps k a

-- At its turn, group `a` had room for the object at place `k`, and no other group with room has a nearer seed. Of equally near
-- groups `a` is the first.
pub record TakesNearest (far : Far) (room g : ℕ) (ps : List Member) (k a : ℕ) : Type 0 where
  pub room_left : at_turn ps k a < room
  pub nearest : (b : ℕ) → b < g → at_turn ps k b < room → (far k a ≤ far k b) × (far k a ≡ far k b → a ≤ b)

-- each object that is no seed is put into the group of the nearest seed that has room at its turn
abbrev pub ObjectsTakeNearest : Type 0
ObjectsTakeNearest =
    (far : Far) (room g n : ℕ) → 0 < g → g ≤ n → n ≤ g * room → (k a : ℕ) → k < n → slice_index_or (placed far room g n) k (seed_of 0) ≡ member_of a →
    TakesNearest far room g (placed far room g n) k a

-- the i-th seed is in group i, also after the small groups are filled up
abbrev pub SeedsStay : Type 0
SeedsStay = (far : Far) (least room g n : ℕ) → 0 < g → g ≤ n → (i : ℕ) → i < g →
    slice_index_or (grouped far least room g n) (i * n / g) (member_of 0) ≡ seed_of i
