-- Steps of the groups' making.
use Rattle.std.proofs.Common.{◌≡◌, ℕ, suc, ◌+◌, ◌<◌, Bool, List, [], ◌∷◌, refl, ap, ◌∙◌, arith, ◌^◌, length, get_or}
use Rattle.std.specs.Prelude.{map, replicate}
use Rattle.std.proofs.lemmas.List.{length-map}
use Rattle.tree_growth.specs.Bulk.{row_of}
use Rattle.bulk_load.specs.MemberLists.{HaveMembers, groups_with}
use Rattle.tree_growth.specs.declared.rules.Member.{Member}
use Rattle.tree_growth.specs.declared.rules.Group.{Group}
use Rattle.tree_growth.specs.Groups.{members_from, entry, placed_from, filled_from, seeds_from, group_count}
use Rattle.tree_growth.specs.Bulk.{groups_from, groups_at, Load, point_of}

-- without lists there are no groups
pub no_lists : (set seeds : List ℕ) → groups_with set seeds [] ≡ []
no_lists set [] = refl
no_lists set (s ∷ seeds) = refl

-- the groups of the seeds from group a on
groups_from_lists : (a : ℕ) (seeds set : List ℕ) (ps : List Member) (lists : List (List ℕ)) → length lists ≡ length seeds →
    ((i : ℕ) → i < length lists → get_or lists i [] ≡ members_from (a + i) set ps) → groups_with set seeds lists ≡ groups_from a seeds set ps
groups_from_lists a [] set ps lists same are = refl
groups_from_lists a (s ∷ seeds) set ps [] same are = absurd (omega arith)
groups_from_lists a (s ∷ seeds) set ps (members ∷ lists) same are =
    let first : members ≡ members_from (a + 0) set ps = are 0 (omega arith) in
    let here : a + 0 ≡ a = omega arith in
    let is = ap (λ (j : ℕ). members_from j set ps) here in
    let rest = groups_from_lists (a + 1) seeds set ps lists (omega arith) (λ i low. are (suc i) (omega arith) ∙ ap (λ (j : ℕ). members_from j set ps) (omega arith)) in
    cc

-- the groups of all seeds
pub groups_are_with : (seeds set : List ℕ) (ps : List Member) (lists : List (List ℕ)) → length lists ≡ length seeds → HaveMembers set ps lists → groups_with set seeds lists ≡ groups_from 0 seeds set ps
groups_are_with seeds set ps lists same have = groups_from_lists 0 seeds set ps lists same (λ i low. have.each i low ∙ ap (λ (j : ℕ). members_from j set ps) (omega arith))

-- what the calls give, put together
pub groups_are : (l : Load) (is_root : Bool) (h : ℕ) (set : List ℕ) (room least g : ℕ) (seeds : List ℕ) (points : List (List ℕ)) (width : ℕ) (table : List (List ℕ)) (placed : List Member) (gs : List Group) →
    room ≡ l.most ^ h → least ≡ l.least ^ h → g ≡ group_count l.most l.least is_root room (length set) → seeds ≡ seeds_from (length set) g 0 g → length seeds ≡ g →
    points ≡ map (point_of l) set → width ≡ length seeds → table ≡ map (row_of l.space points seeds) points →
    placed ≡ filled_from (entry table) least 0 width (placed_from (entry table) room 0 seeds 0 (replicate width 1) (length table)) →
    gs ≡ groups_from 0 seeds set placed → gs ≡ groups_at l is_root h set
groups_are l is_root h set room least g seeds points width table placed gs room_is least_is g_is seeds_are long points_are width_is table_is placed_is gs_are =
    let n : length table ≡ length set =
    ap length table_is ∙ (let p : length (map (row_of l.space points seeds) points) ≡ length points = rw length-map refl in p)
    ∙ ap length points_are ∙ (let q : length (map (point_of l) set) ≡ length set = rw length-map refl in q) in
    let t : entry table ≡ entry (map (row_of l.space (map (point_of l) set) seeds) (map (point_of l) set)) =
    ap entry (table_is ∙ ap (λ (ps : List (List ℕ)). map (row_of l.space ps seeds) ps) points_are) in
    cc
