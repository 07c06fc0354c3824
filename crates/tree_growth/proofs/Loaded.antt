-- A bulk load keeps its objects.
use Rattle.std.proofs.Common.{◌≡◌, ℕ, zero, suc, ◌+◌, ◌*◌, ◌^◌, ◌<◌, ◌≤◌, inl, inr, Bool, true, false, List, [], ◌∷◌, refl, sym, ap, ◌∙◌, arith, length, Option, Some, None, min, ◌-◌, subst}
use Rattle.std.specs.Prelude.{◌==◌, if◌then◌else◌, nat_le, ◌||◌, replicate, map, count_by}
use Rattle.std.specs.List.{AllByRecursion}
use Rattle.std.proofs.lemmas.Bool.Decides.{nat_tests}
use Rattle.std.proofs.lemmas.Grind.{div_ceil_times}
use Rattle.std.proofs.Math.Nat.{one-le-mul, pow-suc, pow-zero}
use Rattle.tree_growth.specs.declared.rules.Member.{Member}
use Rattle.tree_growth.specs.declared.rules.Group.{Group}
use Rattle.tree_shape.specs.Plain.{Object, objects_in, objects_of}
use Rattle.tree_growth.specs.Groups.{Far, nearest_from, chosen, counted, placed_from, seeds_from, seed_of, member_of, candidate_from, moved_to, received, filled_from, grouped, members_from, in_group, group_count, parts_of, entry}
use Rattle.tree_growth.specs.Bulk.{Load, object_at, point_of, radius_of, groups_from, groups_at, table_of, built_at, built_of, height_of, places}
use Rattle.tree_growth.proofs.Sized.{length_set, low_set, nearest_some, length_more, length_seeds, ones_long}
use Rattle.tree_growth.proofs.Added.{one, tally, tally_is, tally_node, all_below}

-- `n` objects, each in one of `g` groups
abbrev pub IsLow : ℕ → ℕ → List Member → Type 0
IsLow g n ps = (length ps ≡ n) × AllByRecursion (λ p. p.group < g) ps

pub chosen_low : (far : Far) (room k g : ℕ) (counts : List ℕ) → 0 < g → length counts ≡ g → chosen (nearest_from far room k 0 None counts) < g
chosen_low far room k g counts some long = go (nearest_from far room k 0 None counts) refl
  where
    go : (best : Option (ℕ × ℕ)) → nearest_from far room k 0 None counts ≡ best → chosen best < g
    go None e = some
    go (Some b) e = elim (nearest_some far room k 0 None counts b e) [
      | inl other ↦ absurd (let h : None ≡ Some b = other in cc)
      | inr r ↦ (let h = r.inside in let i = r.is in omega arith)
    ]

pub counted_long : (best : Option (ℕ × ℕ)) (counts : List ℕ) → length (counted best counts) ≡ length counts
counted_long None counts = refl
counted_long (Some b) counts = length_more b.1 counts

pub placed_low : (far : Far) (room g : ℕ) → 0 < g → (k i : ℕ) (seeds counts : List ℕ) (left : ℕ) → i + length seeds ≤ g → length counts ≡ g →
    IsLow g left (placed_from far room k seeds i counts left)
placed_low far room g some k i seeds counts zero is_point long = (refl, tt)
placed_low far room g some k i [] counts (suc left) is_point long =
    let best : Option (ℕ × ℕ) = nearest_from far room k 0 None counts in
    let rest = placed_low far room g some (k + 1) i [] (counted best counts) left is_point (counted_long best counts ∙ long) in
    (ap suc rest.0, (chosen_low far room k g counts some long, rest.1))
placed_low far room g some k i (s ∷ seeds) counts (suc left) is_point long =
    let best : Option (ℕ × ℕ) = nearest_from far room k 0 None counts in
    cases (s == k) (placed_low far room g some (k + 1) (i + 1) seeds counts left (omega arith) long)
    (placed_low far room g some (k + 1) i (s ∷ seeds) (counted best counts) left is_point (counted_long best counts ∙ long))
  where
    cases : (b : Bool) → IsLow g left (placed_from far room (k + 1) seeds (i + 1) counts left) →
        IsLow g left (placed_from far room (k + 1) (s ∷ seeds) i (counted (nearest_from far room k 0 None counts) counts) left) →
        IsLow g (suc left) (if b then seed_of i ∷ placed_from far room (k + 1) seeds (i + 1) counts left
        else member_of (chosen (nearest_from far room k 0 None counts)) ∷ placed_from far room (k + 1) (s ∷ seeds) i (counted (nearest_from far room k 0 None counts) counts) left)
    cases true now later = (ap suc now.0, (omega arith, now.1))
    cases false now later = (ap suc later.0, (chosen_low far room k g counts some long, later.1))

pub moved_low : (g n a : ℕ) (best : Option (ℕ × ℕ)) (ps : List Member) → a < g → IsLow g n ps → IsLow g n (moved_to a best ps)
moved_low g n a None ps low all = all
moved_low g n a (Some b) ps low all = (length_set b.1 ps (member_of a) ∙ all.0, low_set g b.1 ps (member_of a) low all.1)

pub received_low : (far : Far) (least g n a need : ℕ) (ps : List Member) → a < g → IsLow g n ps → IsLow g n (received far least a need ps)
received_low far least g n a zero ps low all = all
received_low far least g n a (suc need) ps low all =
    received_low far least g n a need (moved_to a (candidate_from far least a ps 0 None ps) ps) low (moved_low g n a (candidate_from far least a ps 0 None ps) ps low all)

pub filled_low : (far : Far) (least g n a left : ℕ) (ps : List Member) → a + left ≤ g → IsLow g n ps → IsLow g n (filled_from far least a left ps)
filled_low far least g n a zero ps is_point all = all
filled_low far least g n a (suc left) ps is_point all =
    filled_low far least g n (a + 1) left (received far least a (least - in_group a ps) ps) (omega arith) (received_low far least g n a (least - in_group a ps) ps (omega arith) all)

pub grouped_low : (far : Far) (least room g n : ℕ) → (0 < n → 0 < g) → IsLow g n (grouped far least room g n)
grouped_low far least room g zero some = filled_low far least g 0 0 g [] (omega arith) (refl, tt)
grouped_low far least room g (suc n) some =
    filled_low far least g (suc n) 0 g (placed_from far room 0 (seeds_from (suc n) g 0 g) 0 (replicate g 1) (suc n)) (omega arith)
    (placed_low far room g (some (omega arith)) 0 0 (seeds_from (suc n) g 0 g) (replicate g 1) (suc n) (let l = length_seeds (suc n) g 0 g in omega arith) (ones_long g))

pub power_some : (most h : ℕ) → 1 ≤ most → 1 ≤ most ^ h
power_some most zero some = let z = pow-zero most in omega arith
power_some most (suc h) some = let p = pow-suc most h in let m = one-le-mul (power_some most h some) some in omega arith

-- there is a group where there is an object
pub some_group : (most least : ℕ) (is_root : Bool) (room n : ℕ) → 1 ≤ most → 1 ≤ room → 0 < n → 0 < group_count most least is_root room n
some_group most least is_root room n some wide many = cases is_root (nat_le least (min most (2 * parts_of n room))) refl
  where
    positive : (p : ℕ) → n ≤ p * room → 0 < p
    positive zero up = absurd (omega arith)
    positive (suc p) up = omega arith

    parts : 0 < min most (2 * parts_of n room)
    parts = let p = positive (parts_of n room) (div_ceil_times n room wide).0 in omega arith

    cases : (r c : Bool) → nat_le least (min most (2 * parts_of n room)) ≡ c → 0 < (if r || c then min most (2 * parts_of n room) else least)
    cases true c e = parts
    cases false true e = parts
    cases false false e = let h : min most (2 * parts_of n room) < least = grind (arith, nat_tests) in let p = parts in omega arith

module _ (weight : ℕ → ℕ) where
  -- the weights of some places together
  abbrev pub weigh : List ℕ → ℕ
  weigh [] = 0
  weigh (k ∷ ks) = weight k + weigh ks

  abbrev pub weigh_all : List Group → ℕ
  weigh_all [] = 0
  weigh_all (g ∷ gs) = weigh g.members + weigh_all gs

  -- those in the groups from a on
  abbrev pub weigh_from : ℕ → List ℕ → List Member → ℕ
  weigh_from a [] ps = 0
  weigh_from a (k ∷ ks) [] = 0
  weigh_from a (k ∷ ks) (p ∷ ps) = (if nat_le a p.group then weight k else 0) + weigh_from a ks ps

  pub from_next : (a : ℕ) (ks : List ℕ) (ps : List Member) → weigh_from a ks ps ≡ weigh (members_from a ks ps) + weigh_from (a + 1) ks ps
  from_next a [] ps = refl
  from_next a (k ∷ ks) [] = refl
  from_next a (k ∷ ks) (p ∷ ps) = let ih = from_next a ks ps in let s = step (p.group == a) (weight k) (members_from a ks ps) in let t = split (weight k) in omega arith
    where
      step : (b : Bool) (w : ℕ) (ms : List ℕ) → weigh (if b then k ∷ ms else ms) ≡ (if b then weight k else 0) + weigh ms
      step true w ms = refl
      step false w ms = omega arith

      split : (w : ℕ) → (if nat_le a p.group then w else 0) ≡ (if p.group == a then w else 0) + (if nat_le (a + 1) p.group then w else 0)
      split w = grind (arith, nat_tests)

  pub from_end : (g : ℕ) (ks : List ℕ) (ps : List Member) → AllByRecursion (λ p. p.group < g) ps → weigh_from g ks ps ≡ 0
  from_end g [] ps low = refl
  from_end g (k ∷ ks) [] low = refl
  from_end g (k ∷ ks) (p ∷ ps) low = let ih = from_end g ks ps low.1 in let l = low.0 in let z = none (weight k) l in omega arith
    where
      none : (w : ℕ) → p.group < g → (if nat_le g p.group then w else 0) ≡ 0
      none w l = grind (arith, nat_tests)

  pub from_start : (ks : List ℕ) (ps : List Member) → length ps ≡ length ks → weigh_from 0 ks ps ≡ weigh ks
  from_start [] ps long = refl
  from_start (k ∷ ks) [] long = absurd (omega arith)
  from_start (k ∷ ks) (p ∷ ps) long = let ih = from_start ks ps (omega arith) in let s = all (weight k) in omega arith
    where
      all : (w : ℕ) → (if nat_le 0 p.group then w else 0) ≡ w
      all w = grind (arith, nat_tests)

  pub groups_weigh : (g a : ℕ) (seeds ks : List ℕ) (ps : List Member) → a + length seeds ≡ g → AllByRecursion (λ p. p.group < g) ps →
      weigh_all (groups_from a seeds ks ps) ≡ weigh_from a ks ps
  groups_weigh g a [] ks ps sum low = sym (from_end a ks ps (subst (λ (b : ℕ). AllByRecursion (λ p. p.group < b) ps) (let e : g ≡ a = omega arith in e) low))
  groups_weigh g a (s ∷ seeds) ks ps sum low = let ih = groups_weigh g (a + 1) seeds ks ps (omega arith) low in let n = from_next a ks ps in omega arith

module _ (l : Load) (some : 1 ≤ l.most) (kind : Object → Bool) where
  abbrev pub weight_of : ℕ → ℕ
  weight_of k = one (kind (object_at l k))

  pub tally_rows : (ks : List ℕ) → tally kind (map (object_at l) ks) ≡ weigh weight_of ks
  tally_rows [] = refl
  tally_rows (k ∷ ks) = let ih = tally_rows ks in omega arith

  pub groups_at_weigh : (is_root : Bool) (h : ℕ) (set : List ℕ) → weigh_all weight_of (groups_at l is_root h set) ≡ weigh weight_of set
  groups_at_weigh is_root h set =
      let n : ℕ = length set in
      let g : ℕ = group_count l.most l.least is_root (l.most ^ h) n in
      let low = grouped_low (entry (table_of l set (seeds_from n g 0 g))) (l.least ^ h) (l.most ^ h) g n (λ many. some_group l.most l.least is_root (l.most ^ h) n some (power_some l.most h some) many) in
      groups_weigh weight_of g 0 (seeds_from n g 0 g) set (grouped (entry (table_of l set (seeds_from n g 0 g))) (l.least ^ h) (l.most ^ h) g n) (let s = length_seeds n g 0 g in omega arith) low.1
      ∙ from_start weight_of set (grouped (entry (table_of l set (seeds_from n g 0 g))) (l.least ^ h) (l.most ^ h) g n) low.0

  pub built_tally : (is_root : Bool) (h : ℕ) (set : List ℕ) → tally kind (objects_in h (built_at l is_root h set)) ≡ weigh weight_of set
  built_tally is_root zero set = tally_rows set
  built_tally is_root (suc h) set =
      tally_node kind h (built_at l is_root (suc h) set) ∙ go (groups_at l is_root (suc h) set) (λ s. built_tally false h s) ∙ groups_at_weigh is_root (suc h) set
    where
      go : (gs : List Group) → ((s : List ℕ) → tally kind (objects_in h (built_at l false h s)) ≡ weigh weight_of s) →
          all_below kind h (map (λ p. record { point = point_of l p.seed; radius = radius_of l (point_of l p.seed) p.members; below = built_at l false h p.members }) gs) ≡ weigh_all weight_of gs
      go [] ih = refl
      go (g ∷ gs) ih = let here = ih g.members in let rest = go gs ih in omega arith

pub load_keeps_objects : (l : Load) → 1 ≤ l.most → (kind : Object → Bool) → count_by kind (objects_of (built_of l)) ≡ count_by kind (map (object_at l) (places l))
load_keeps_objects l some kind =
    let tree = tally_is kind (objects_of (built_of l)) in
    let rows = tally_is kind (map (object_at l) (places l)) in
    let same = built_tally l some kind true (height_of l.most (length l.points)) (places l) in
    let own = tally_rows l some kind (places l) in omega arith
