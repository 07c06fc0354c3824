-- A bulk load makes a sound tree.
use Rattle.std.proofs.Common.{◌≡◌, ℕ, zero, suc, ◌+◌, ◌*◌, ◌/◌, ◌^◌, ◌<◌, ◌≤◌, ◌⊎◌, inl, inr, Bool, true, false, List, [], ◌∷◌, refl, sym, ap, ◌∙◌, arith, length, subst, min}
use Rattle.std.specs.Prelude.{◌==◌, if◌then◌else◌, nat_le, ◌||◌, map, slice_index, slice_index_or, IsTrue}
use Rattle.std.specs.List.{AllByRecursion, flat_map}
use Rattle.std.proofs.lemmas.Bool.Decides.{nat_tests}
use Rattle.std.proofs.lemmas.List.{length-map}
use Rattle.std.proofs.Math.Nat.{pow-suc, pow-zero, mul-le-mul_left, mul-lt-mul_of_pos_right, div-lt_iff_lt-mul}
use Rattle.metric_laws.specs.Space.{Space, IsSpace}
use Rattle.metric_laws.proofs.Published.{all_weaker, all_append}
use Rattle.tree_growth.specs.declared.rules.Member.{Member}
use Rattle.tree_growth.specs.declared.rules.Group.{Group}
use Rattle.tree_shape.specs.Fill.{IsFilled, least_for, most_for, root_least}
use Rattle.tree_shape.specs.Plain.{Object, Branch, Plain, objects_in}
use Rattle.tree_shape.specs.Sound.{ObjectFits, BranchCovers, IsSoundPlain, IsSoundTall}
use Rattle.tree_growth.specs.Groups.{Far, entry, group_count, parts_of, seeds_from, grouped, members_from, in_group, AreSized}
use Rattle.tree_growth.specs.Bulk.{Load, object_at, point_of, radius_of, groups_from, groups_at, table_of, built_at, built, height_from, height_of, places_from, places}
use Rattle.tree_growth.proofs.Sized.{groups_are_sized, length_seeds}
use Rattle.tree_growth.proofs.Fitting.{Fits, count_fits, powers_wide}
use Rattle.tree_growth.proofs.Loaded.{power_some}
use Rattle.tree_shape.proofs.Published.{all_mapped, three_at_least}

pub members_long : (a : ℕ) (ks : List ℕ) (ps : List Member) → length ps ≡ length ks → length (members_from a ks ps) ≡ in_group a ps
members_long a [] [] long = refl
members_long a [] (p ∷ ps) long = absurd (omega arith)
members_long a (k ∷ ks) [] long = absurd (omega arith)
members_long a (k ∷ ks) (p ∷ ps) long = cases (p.group == a) (members_long a ks ps (omega arith))
  where
    cases : (b : Bool) → length (members_from a ks ps) ≡ in_group a ps → length (if b then k ∷ members_from a ks ps else members_from a ks ps) ≡ (if b then 1 else 0) + in_group a ps
    cases true ih = omega arith
    cases false ih = omega arith

pub members_all : (P : ℕ → Type 0) (a : ℕ) (ks : List ℕ) (ps : List Member) → AllByRecursion P ks → AllByRecursion P (members_from a ks ps)
members_all P a [] ps all = tt
members_all P a (k ∷ ks) [] all = tt
members_all P a (k ∷ ks) (p ∷ ps) all = cases (p.group == a) (members_all P a ks ps all.1)
  where
    cases : (b : Bool) → AllByRecursion P (members_from a ks ps) → AllByRecursion P (if b then k ∷ members_from a ks ps else members_from a ks ps)
    cases true ih = (all.0, ih)
    cases false ih = ih

-- what holds of each group made from a seed
pub groups_all : (Q : Group → Type 0) (S : ℕ → Type 0) (g a : ℕ) (seeds ks : List ℕ) (ps : List Member) → a + length seeds ≡ g → AllByRecursion S seeds →
    ((b s : ℕ) → b < g → S s → Q (record { seed = slice_index ks s; members = members_from b ks ps })) → AllByRecursion Q (groups_from a seeds ks ps)
groups_all Q S g a [] ks ps sum ok h = tt
groups_all Q S g a (s ∷ seeds) ks ps sum ok h = (h a s (omega arith) ok.0, groups_all Q S g (a + 1) seeds ks ps (omega arith) ok.1 h)

pub groups_long : (a : ℕ) (seeds ks : List ℕ) (ps : List Member) → length (groups_from a seeds ks ps) ≡ length seeds
groups_long a [] ks ps = refl
groups_long a (s ∷ seeds) ks ps = ap suc (groups_long (a + 1) seeds ks ps)

pub seeds_low : (n g i left : ℕ) → 0 < n → i + left ≤ g → AllByRecursion (λ s. s < n) (seeds_from n g i left)
seeds_low n g i zero some is_point = tt
seeds_low n g i (suc left) some is_point = (inside, seeds_low n g (i + 1) left some (omega arith))
  where
    inside : i * n / g < n
    inside = (div-lt_iff_lt-mul (let h : 0 < g = omega arith in h)).1 (let m = mul-lt-mul_of_pos_right {m = i} {n = g} {k = n} (omega arith) some in omega arith)

pub at_place : (P : ℕ → Type 0) (ks : List ℕ) (s : ℕ) → AllByRecursion P ks → s < length ks → P (slice_index ks s)
at_place P [] s all low = absurd (omega arith)
at_place P (k ∷ ks) zero all low = all.0
at_place P (k ∷ ks) (suc s) all low = at_place P ks s all.1 (omega arith)

pub point_at_place : (P : List ℕ → Type 0) (xs : List (List ℕ)) (s : ℕ) → AllByRecursion P xs → s < length xs → P (slice_index_or xs s [])
point_at_place P [] s all low = absurd (omega arith)
point_at_place P (x ∷ xs) zero all low = all.0
point_at_place P (x ∷ xs) (suc s) all low = point_at_place P xs s all.1 (omega arith)

pub places_long : (k n : ℕ) → length (places_from k n) ≡ n
places_long k zero = refl
places_long k (suc n) = ap suc (places_long (k + 1) n)

pub places_low : (k n m : ℕ) → k + n ≤ m → AllByRecursion (λ j. j < m) (places_from k n)
places_low k zero m is_point = tt
places_low k (suc n) m is_point = (omega arith, places_low (k + 1) n m (omega arith))

-- the number of groups
pub group_most : (most least : ℕ) (is_root : Bool) (room n : ℕ) → least ≤ most → group_count most least is_root room n ≤ most
group_most most least is_root room n le = cases (is_root || nat_le least (min most (2 * parts_of n room)))
  where
    cases : (b : Bool) → (if b then min most (2 * parts_of n room) else least) ≤ most
    cases true = omega arith
    cases false = le

pub group_least : (most least room n : ℕ) → least ≤ group_count most least false room n
group_least most least room n = cases (nat_le least (min most (2 * parts_of n room))) refl
  where
    cases : (b : Bool) → nat_le least (min most (2 * parts_of n room)) ≡ b → least ≤ (if b then min most (2 * parts_of n room) else least)
    cases true e = grind (arith, nat_tests)
    cases false e = omega arith

-- the height
pub power_one : (a : ℕ) → a ^ 1 ≡ a
power_one a = let p : a ^ suc 0 ≡ a ^ 0 * a = pow-suc a 0 in let z : a ^ 0 ≡ 1 = pow-zero a in let m : a ^ 0 * a ≡ 1 * a = ap (λ (x : ℕ). x * a) z in omega arith

pub grows : (most n : ℕ) → 2 ≤ most → n + 1 ≤ most ^ n
grows most zero two = let z = pow-zero most in omega arith
grows most (suc n) two =
    let ih = grows most n two in let p = pow-suc most n in
    let m : most ^ n * 2 ≤ most ^ n * most = mul-le-mul_left (most ^ n) two in omega arith

pub height_is : (most n h left : ℕ) → n ≤ most ^ (h + left + 1) →
    (n ≤ most ^ (height_from most n h left + 1)) × ((height_from most n h left ≡ h) ⊎ (most ^ height_from most n h left < n))
height_is most n h zero up = (subst (λ (k : ℕ). n ≤ most ^ k) (let e : h + zero + 1 ≡ h + 1 = omega arith in e) up, inl refl)
height_is most n h (suc left) up =
    cases (nat_le n (most ^ (h + 1))) refl (height_is most n (h + 1) left (subst (λ (k : ℕ). n ≤ most ^ k) (let e : h + suc left + 1 ≡ h + 1 + left + 1 = omega arith in e) up))
  where
    cases : (b : Bool) → nat_le n (most ^ (h + 1)) ≡ b → (n ≤ most ^ (height_from most n (h + 1) left + 1)) × ((height_from most n (h + 1) left ≡ h + 1) ⊎ (most ^ height_from most n (h + 1) left < n)) →
        (n ≤ most ^ ((if b then h else height_from most n (h + 1) left) + 1)) × (((if b then h else height_from most n (h + 1) left) ≡ h) ⊎ (most ^ (if b then h else height_from most n (h + 1) left) < n))
    cases true e ih = (grind (arith, nat_tests), inl refl)
    cases false e ih = (
      ih.0,
      elim ih.1 [
        | inl same ↦ inr (subst (λ (k : ℕ). most ^ k < n) (sym same) (let high : most ^ (h + 1) < n = grind (arith, nat_tests) in high))
        | inr high ↦ inr high
      ],
    )

module _ (s : Space) (space : IsSpace s) (rows : List (List ℕ)) (tags : List ℕ) (is_point : AllByRecursion (λ p. IsTrue (s.is_point p)) rows) where
  abbrev pub most : ℕ
  most = most_for s.dimension

  abbrev pub least : ℕ
  least = least_for s.dimension

  abbrev pub load : Load
  load = record { space = s; points = rows; tags = tags; most = most_for s.dimension; least = least_for s.dimension }

  abbrev pub IsPlace : ℕ → Type 0
  IsPlace k = k < length rows

  pub place_fits : (k : ℕ) → IsPlace k → IsTrue (s.is_point (point_of load k))
  place_fits k low = point_at_place (λ p. IsTrue (s.is_point p)) rows k is_point low

  abbrev pub branch_at : (h : ℕ) → Group → Branch (Plain h)
  branch_at h p = record { point = point_of load p.seed; radius = radius_of load (point_of load p.seed) p.members; below = built_at load false h p.members }

  -- what holds of the set's objects holds of the tree's
  pub built_all : (P : Object → Type 0) (is_root : Bool) (h : ℕ) (ks : List ℕ) → AllByRecursion (λ k. P (object_at load k)) ks → AllByRecursion P (objects_in h (built_at load is_root h ks))
  built_all P is_root zero ks all = all_mapped (λ k. P (object_at load k)) P (object_at load) ks (λ k p. p) all
  built_all P is_root (suc h) ks all =
      let n : ℕ = length ks in
      let g : ℕ = group_count most least is_root (most ^ suc h) n in
      go (groups_at load is_root (suc h) ks) (λ ms a. built_all P false h ms a)
      (groups_all (λ p. AllByRecursion (λ k. P (object_at load k)) p.members) (λ s. Unit {0}) g 0 (seeds_from n g 0 g) ks
      (grouped (entry (table_of load ks (seeds_from n g 0 g))) (least ^ suc h) (most ^ suc h) g n) (let l = length_seeds n g 0 g in omega arith) (units (seeds_from n g 0 g))
      (λ b s low ok. members_all (λ k. P (object_at load k)) b ks (grouped (entry (table_of load ks (seeds_from n g 0 g))) (least ^ suc h) (most ^ suc h) g n) all))
    where
      units : (xs : List ℕ) → AllByRecursion (λ s. Unit {0}) xs
      units [] = tt
      units (x ∷ xs) = (tt, units xs)

      go : (gs : List Group) → ((ms : List ℕ) → AllByRecursion (λ k. P (object_at load k)) ms → AllByRecursion P (objects_in h (built_at load false h ms))) →
          AllByRecursion (λ p. AllByRecursion (λ k. P (object_at load k)) p.members) gs → AllByRecursion P (flat_map (λ (b : Branch (Plain h)). objects_in h b.below) (map (branch_at h) gs))
      go [] ih ok = tt
      go (p ∷ gs) ih ok = all_append P (objects_in h (built_at load false h p.members)) (flat_map (λ (b : Branch (Plain h)). objects_in h b.below) (map (branch_at h) gs)) (ih p.members ok.0) (go gs ih ok.1)

  pub radius_reaches : (c : List ℕ) (ks : List ℕ) → AllByRecursion (λ k. s.dist (point_of load k) c ≤ radius_of load c ks) ks
  radius_reaches c [] = tt
  radius_reaches c (k ∷ ks) = (omega arith, all_weaker (λ j. s.dist (point_of load j) c ≤ radius_of load c ks) (λ j. s.dist (point_of load j) c ≤ radius_of load c (k ∷ ks)) ks (λ j w. omega arith) (radius_reaches c ks))

  -- a group that its subtree can hold
  pub record IsGood (h : ℕ) (p : Group) : Type 0 where
    pub seed_low : IsPlace p.seed
    pub members_low : AllByRecursion IsPlace p.members
    pub enough : least ^ h ≤ length p.members
    pub few : length p.members ≤ most ^ h

  pub groups_good : (is_root : Bool) (h : ℕ) (ks : List ℕ) → AllByRecursion IsPlace ks → 0 < length ks → 0 < least ^ h → least ^ h ≤ most ^ h →
      Fits (least ^ h) (most ^ h) (length ks) (group_count most least is_root (most ^ h) (length ks)) → AllByRecursion (IsGood h) (groups_at load is_root h ks)
  groups_good is_root h ks low many some wide count =
      let n : ℕ = length ks in
      let g : ℕ = group_count most least is_root (most ^ h) n in
      let far : Far = entry (table_of load ks (seeds_from n g 0 g)) in
      let ps : List Member = grouped far (least ^ h) (most ^ h) g n in
      let sized : AreSized (least ^ h) (most ^ h) g n ps = groups_are_sized far (least ^ h) (most ^ h) g n some wide count.some count.enough count.spare in
      groups_all (IsGood h) (λ j. j < n) g 0 (seeds_from n g 0 g) ks ps (let l = length_seeds n g 0 g in omega arith) (seeds_low n g 0 g many (omega arith))
      (λ b j here inside. record {
        seed_low = at_place IsPlace ks j low inside;
        members_low = members_all IsPlace b ks ps low;
        enough = (let l = members_long b ks ps sized.long in let e = sized.enough b here in omega arith);
        few = (let l = members_long b ks ps sized.long in let e = sized.few b here in omega arith);
      })

  pub count_long : (is_root : Bool) (h : ℕ) (ks : List ℕ) → length (map (branch_at h) (groups_at load is_root (suc h) ks)) ≡ group_count most least is_root (most ^ suc h) (length ks)
  count_long is_root h ks =
      let n : ℕ = length ks in
      let g : ℕ = group_count most least is_root (most ^ suc h) n in
      rw length-map (groups_long 0 (seeds_from n g 0 g) ks (grouped (entry (table_of load ks (seeds_from n g 0 g))) (least ^ suc h) (most ^ suc h) g n) ∙ length_seeds n g 0 g)

  abbrev pub IsSoundBranch : (h : ℕ) → Branch (Plain h) → Type 0
  IsSoundBranch h b = IsTrue (s.is_point b.point) × BranchCovers s h b × IsSoundPlain s h least b.below

  pub branches_sound : (h : ℕ) (gs : List Group) → ((ks : List ℕ) → AllByRecursion IsPlace ks → least ^ suc h ≤ length ks → length ks ≤ most ^ suc h → IsSoundPlain s h least (built_at load false h ks)) →
      AllByRecursion (IsGood (suc h)) gs → AllByRecursion (IsSoundBranch h) (map (branch_at h) gs)
  branches_sound h gs ih all =
      all_mapped (IsGood (suc h)) (IsSoundBranch h) (branch_at h) gs
      (λ p k. (
        place_fits p.seed k.seed_low,
        built_all (λ o. s.dist o.point (point_of load p.seed) ≤ radius_of load (point_of load p.seed) p.members) false h p.members (radius_reaches (point_of load p.seed) p.members),
        ih p.members k.members_low k.enough k.few,
      )) all

  pub four_times : 4 * least ≤ most
  four_times = let three = three_at_least s.dimension space.few_coordinates in omega arith

  pub leaf_sound : (lowest : ℕ) (is_root : Bool) (ks : List ℕ) → AllByRecursion IsPlace ks → lowest ≤ length ks → length ks ≤ most → IsSoundPlain s zero lowest (built_at load is_root zero ks)
  leaf_sound lowest is_root ks low enough few =
      (filled, all_mapped IsPlace (ObjectFits s) (object_at load) ks (λ k p. place_fits k p) low)
    where
      filled : IsFilled s.dimension lowest (length (map (object_at load) ks))
      filled = rw length-map (record { enough = enough; at_most = few })

  pub built_sound : (h : ℕ) (ks : List ℕ) → AllByRecursion IsPlace ks → least ^ suc h ≤ length ks → length ks ≤ most ^ suc h → IsSoundPlain s h least (built_at load false h ks)
  built_sound zero ks low enough few =
      let l = power_one least in let m = power_one most in leaf_sound least false ks low (omega arith) (omega arith)
  built_sound (suc h) ks low enough few =
      let n : ℕ = length ks in
      let three = three_at_least s.dimension space.few_coordinates in
      let some = power_some least (suc h) (omega arith) in
      let wide = powers_wide most least h four_times in
      let p = pow-suc least (suc h) in
      let q = pow-suc most (suc h) in
      let more = power_some least (suc (suc h)) (omega arith) in
      let count = count_fits most least (most ^ suc h) (least ^ suc h) n false three four_times (omega arith) wide (λ e. absurd (let c : false ≡ true = e in cc)) (λ e. omega arith) (omega arith) in
      let long = count_long false h ks in
      let up = group_most most least false (most ^ suc h) n (let f = four_times in omega arith) in
      let down = group_least most least (most ^ suc h) n in (
        record { enough = omega arith; at_most = omega arith },
        branches_sound h (groups_at load false (suc h) ks) (λ ms a b c. built_sound h ms a b c)
            (groups_good false (suc h) ks low (omega arith) (omega arith) (omega arith) count),
      )

  pub root_sound : (h : ℕ) → length rows ≤ most ^ suc h → ((h ≡ 0) ⊎ (most ^ h < length rows)) → IsSoundPlain s h (root_least h) (built_at load true h (places load))
  root_sound zero few high =
      let m = power_one most in let l = places_long 0 (length rows) in
      leaf_sound 0 true (places load) (places_low 0 (length rows) (length rows) (omega arith)) (omega arith) (omega arith)
  root_sound (suc h) few high = elim high [ inl none ↦ absurd (omega arith) | inr above ↦ inner above ]
    where
      inner : most ^ suc h < length rows → IsSoundPlain s (suc h) 2 (built_at load true (suc h) (places load))
      inner above =
          let ks : List ℕ = places load in
          let l : length ks ≡ length rows = places_long 0 (length rows) in
          let three = three_at_least s.dimension space.few_coordinates in
          let some = power_some least (suc h) (omega arith) in
          let wide = powers_wide most least h four_times in
          let q = pow-suc most (suc h) in
          let count = count_fits most least (most ^ suc h) (least ^ suc h) (length ks) true three four_times (omega arith) wide (λ e. omega arith) (λ e. absurd (let c : true ≡ false = e in cc)) (omega arith) in
          let long = count_long true h ks in
          let up = group_most most least true (most ^ suc h) (length ks) (let f = four_times in omega arith) in
          let two = two_groups (group_count most least true (most ^ suc h) (length ks)) (length ks) count.spare (omega arith) in (
            record { enough = omega arith; at_most = omega arith },
            branches_sound h (groups_at load true (suc h) ks) (λ ms a b c. built_sound h ms a b c)
                (groups_good true (suc h) ks (places_low 0 (length rows) (length rows) (omega arith)) (omega arith) (omega arith) (omega arith) count),
          )
        where
          two_groups : (g n : ℕ) → n ≤ g * most ^ suc h → most ^ suc h < n → 2 ≤ g
          two_groups zero n spare more = absurd (omega arith)
          two_groups (suc zero) n spare more = absurd (omega arith)
          two_groups (suc (suc g)) n spare more = omega arith

pub load_is_sound : (s : Space) → IsSpace s → (rows : List (List ℕ)) (tags : List ℕ) → AllByRecursion (λ p. IsTrue (s.is_point p)) rows → IsSoundTall s (built s rows tags)
load_is_sound s space rows tags is_point =
    let n : ℕ = length rows in
    let most : ℕ = most_for s.dimension in
    let three = three_at_least s.dimension space.few_coordinates in
    let four = four_times s space rows tags is_point in
    let g : n + 2 ≤ most ^ suc n = (let h = grows most (suc n) (omega arith) in omega arith) in
    let is = height_is most n 0 n (subst (λ (k : ℕ). n ≤ most ^ k) (let e : suc n ≡ 0 + n + 1 = omega arith in e) (omega arith)) in
    root_sound s space rows tags is_point (height_of most n) (subst (λ (k : ℕ). n ≤ most ^ k) (let e : height_of most n + 1 ≡ suc (height_of most n) = omega arith in e) is.0) is.1
