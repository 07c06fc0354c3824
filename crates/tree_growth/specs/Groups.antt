-- How bulk loading divides a set into groups: this project's own procedure.
use Rattle.std.specs.Prelude.{◌≡◌, ℕ, zero, suc, ◌+◌, ◌-◌, ◌*◌, ◌/◌, ◌<◌, ◌≤◌, min, Bool, true, false, List, [], ◌∷◌, length, Option, Some, None, if◌then◌else◌, nat_lt, nat_le, ◌==◌, ◌&&◌, ◌||◌, not, slice_index, slice_index_or, slice_set, replicate}
use Rattle.std.specs.List.{AllByRecursion}
use Rattle.std.specs.Int.{div_ceil}
use Rattle.tree_growth.specs.declared.rules.Member.{Member}

-- the number of parts of `size` objects that hold `n` objects
abbrev pub parts_of : ℕ → ℕ → ℕ
parts_of n size = div_ceil n size

-- the number of groups of a set of n objects, where a group has at most `room` objects
abbrev pub group_count : ℕ → ℕ → Bool → ℕ → ℕ → ℕ
group_count most least is_root room n =
    if is_root || nat_le least (min most (2 * parts_of n room)) then min most (2 * parts_of n room) else least

-- the places of the seeds in the set, from seed `i` on
abbrev pub seeds_from : ℕ → ℕ → ℕ → ℕ → List ℕ
seeds_from n g i zero = []
seeds_from n g i (suc left) = i * n / g ∷ seeds_from n g (i + 1) left

-- the distance of the object at a place from a group's seed
abbrev pub Far : Type 0
Far = ℕ → ℕ → ℕ

-- the nearest so far, as a distance and a number; a candidate that may be taken replaces it where it is nearer
abbrev pub nearer : Bool → ℕ → ℕ → Option (ℕ × ℕ) → Option (ℕ × ℕ)
nearer false d i best = best
nearer true d i None = Some (d, i)
nearer true d i (Some b) = if nat_lt d b.0 then Some (d, i) else Some b

-- the nearest group, from group a on, that has fewer than `room` objects
abbrev pub nearest_from : Far → ℕ → ℕ → ℕ → Option (ℕ × ℕ) → List ℕ → Option (ℕ × ℕ)
nearest_from far room k a best [] = best
nearest_from far room k a best (c ∷ counts) = nearest_from far room k (a + 1) (nearer (nat_lt c room) (far k a) a best) counts

abbrev pub one_more : ℕ → List ℕ → List ℕ
one_more a counts = slice_set counts a (slice_index counts a + 1)

abbrev pub seed_of : ℕ → Member
seed_of i = record { group = i; is_seed = true }

abbrev pub member_of : ℕ → Member
member_of a = record { group = a; is_seed = false }

-- the group that was chosen, and the counts after the choice; where the groups have room for all, there is always a group to choose
abbrev pub chosen : Option (ℕ × ℕ) → ℕ
chosen None = 0
chosen (Some b) = b.1

abbrev pub counted : Option (ℕ × ℕ) → List ℕ → List ℕ
counted None counts = counts
counted (Some b) counts = one_more b.1 counts

-- the objects from place `k` on, `left` of them, each put into a group; `seeds` are the places of the seeds from group `i` on, and
-- `counts` the numbers of objects in the groups
abbrev pub placed_from : Far → ℕ → ℕ → List ℕ → ℕ → List ℕ → ℕ → List Member
placed_from far room k seeds i counts zero = []
placed_from far room k [] i counts (suc left) =
    member_of (chosen (nearest_from far room k 0 None counts)) ∷ placed_from far room (k + 1) [] i (counted (nearest_from far room k 0 None counts) counts) left
placed_from far room k (s ∷ seeds) i counts (suc left) =
    if s == k then seed_of i ∷ placed_from far room (k + 1) seeds (i + 1) counts left
    else member_of (chosen (nearest_from far room k 0 None counts)) ∷ placed_from far room (k + 1) (s ∷ seeds) i
    (counted (nearest_from far room k 0 None counts) counts) left

-- the number of objects in a group
abbrev pub in_group : ℕ → List Member → ℕ
in_group a [] = 0
in_group a (p ∷ ps) = (if p.group == a then 1 else 0) + in_group a ps

-- whether a small group may receive the object
abbrev pub is_candidate : ℕ → List Member → Member → Bool
is_candidate least all p = not p.is_seed && nat_lt least (in_group p.group all)

-- the candidate nearest to group a's seed
abbrev pub candidate_from : Far → ℕ → ℕ → List Member → ℕ → Option (ℕ × ℕ) → List Member → Option (ℕ × ℕ)
candidate_from far least a all k best [] = best
candidate_from far least a all k best (p ∷ ps) = candidate_from far least a all (k + 1) (nearer (is_candidate least all p) (far k a) k best) ps

-- moves the object at the found place to group `a`
abbrev pub moved_to : ℕ → Option (ℕ × ℕ) → List Member → List Member
moved_to a None ps = ps
moved_to a (Some b) ps = slice_set ps b.1 (member_of a)

-- group `a` receives the given number of objects
abbrev pub received : Far → ℕ → ℕ → ℕ → List Member → List Member
received far least a zero ps = ps
received far least a (suc n) ps = received far least a n (moved_to a (candidate_from far least a ps 0 None ps) ps)

-- the given number of groups, from group `a` on, each filled up
abbrev pub filled_from : Far → ℕ → ℕ → ℕ → List Member → List Member
filled_from far least a zero ps = ps
filled_from far least a (suc n) ps = filled_from far least (a + 1) n (received far least a (least - in_group a ps) ps)

-- the group of each object, where each of the `g` groups has `least` to `room` objects
abbrev pub grouped : Far → ℕ → ℕ → ℕ → ℕ → List Member
grouped far least room g n = filled_from far least 0 g (placed_from far room 0 (seeds_from n g 0 g) 0 (replicate g 1) n)

-- an entry of a table
abbrev pub entry : List (List ℕ) → Far
entry table k a = slice_index (slice_index_or table k []) a

-- the members of a group, by their places from k on
abbrev pub members_from : {X : Type 0} → ℕ → List X → List Member → List X
members_from a [] ps = []
members_from a (x ∷ xs) [] = []
members_from a (x ∷ xs) (p ∷ ps) = if p.group == a then x ∷ members_from a xs ps else members_from a xs ps

-- each object has a group, and each group has `least` to `room` objects
pub record AreSized (least room g n : ℕ) (ps : List Member) : Type 0 where
  pub long : length ps ≡ n
  pub low : AllByRecursion (λ p. p.group < g) ps
  pub enough : (a : ℕ) → a < g → least ≤ in_group a ps
  pub few : (a : ℕ) → a < g → in_group a ps ≤ room

-- where `g` groups can have that many objects each, they do
abbrev pub GroupsAreSized : Type 0
GroupsAreSized = (far : Far) (least room g n : ℕ) → 0 < least → least ≤ room → 0 < g → g * least ≤ n → n ≤ g * room →
    AreSized least room g n (grouped far least room g n)
