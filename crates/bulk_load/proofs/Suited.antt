-- Each group of a set can be built, and how many nodes there are.
use Rattle.std.proofs.Common.{◌≡◌, ◌⊎◌, ℕ, zero, suc, ◌+◌, ◌*◌, ◌^◌, ◌<◌, ◌≤◌, Bool, true, false, List, [], ◌∷◌, ◌++◌, refl, sym, ap, ◌∙◌, arith, length, map, subst, inl, inr, length-append}
use Rattle.std.specs.Prelude.{Option, Some, None, not, is_some, ◌==◌, if◌then◌else◌, IsTrue}
use Rattle.std.specs.List.{AllByRecursion, flat_map}
use Rattle.std.specs.List.Sorted.{IsStrictlyIncreasing}
use Rattle.std.proofs.Math.Nat.{pow-suc, pow-zero, mul-le-mul_left}
use Rattle.std.proofs.Math.Pow.{pow_mono}
use Rattle.metric_laws.specs.Space.{Space, IsSpace}
use Rattle.metric_laws.proofs.Published.{all_both, all_weaker}
use Rattle.tree_shape.specs.declared.entry.Node.{Node}
use Rattle.tree_shape.specs.declared.entry.Node.TheVariants.{Inner}
use Rattle.tree_growth.specs.declared.rules.Group.{Group}
use Rattle.tree_growth.specs.declared.rules.Member.{Member}
use Rattle.tree_shape.specs.Fill.{most_for, least_for}
use Rattle.tree_growth.specs.Groups.{group_count, members_from, seeds_from, grouped, entry}
use Rattle.tree_shape.specs.Plain.{Object, Branch, Plain, Tall}
use Rattle.tree_growth.specs.Bulk.{Load, table_of, groups_from, groups_at, built_at, height_of, places, places_from}
use Rattle.tree_growth.proofs.Published.{Fits, count_fits, powers_wide, length_seeds, power_some, weigh, weigh_all, weight_of, groups_at_weigh, load, four_times, IsGood, groups_good, groups_long, group_most, group_least, grows, height_is, places_long, places_low}
use Rattle.tree_shape.proofs.Published.{three_at_least}
use Rattle.page_store.specs.Numbers.{Ascends}
use Rattle.page_store.proofs.Published.{next_at, lower_or}
use Rattle.bulk_load.specs.Sets.{IsValidLoad, IsSetFor, IsGroupFor}
use Rattle.bulk_load.specs.Postorder.{subtrees, is_top, below_groups, group_entries, nodes_at}
use Rattle.bulk_load.proofs.Shown.{group_branch}

pub increasing : (low : ℕ) (xs : List ℕ) → Ascends low xs → IsStrictlyIncreasing xs
increasing low xs up k less = next_at low xs k up less

lower : (low high : ℕ) (xs : List ℕ) → low ≤ high → Ascends high xs → Ascends low xs
lower low high [] le up = tt
lower low high (x ∷ xs) le up = ((let h = up.0 in omega (arith, h, le)), up.1)

members_ascend : (low a : ℕ) (ks : List ℕ) (ps : List Member) → Ascends low ks → Ascends low (members_from a ks ps)
members_ascend low a [] ps up = tt
members_ascend low a (k ∷ ks) [] up = tt
members_ascend low a (k ∷ ks) (p ∷ ps) up = cases (p.group == a) (members_ascend (k + 1) a ks ps up.1)
  where
    cases : (b : Bool) → Ascends (k + 1) (members_from a ks ps) → Ascends low (if b then k ∷ members_from a ks ps else members_from a ks ps)
    cases true rest = (up.0, rest)
    cases false rest = lower low (k + 1) (members_from a ks ps) (let h = up.0 in omega (arith, h)) rest

groups_ascend : (a : ℕ) (seeds ks : List ℕ) (ps : List Member) → Ascends 0 ks → AllByRecursion (λ g. Ascends 0 g.members) (groups_from a seeds ks ps)
groups_ascend a [] ks ps up = tt
groups_ascend a (s ∷ seeds) ks ps up = (members_ascend 0 a ks ps up, groups_ascend (a + 1) seeds ks ps up)

places_ascend : (k n : ℕ) → Ascends k (places_from k n)
places_ascend k zero = tt
places_ascend k (suc n) = (omega arith, places_ascend (k + 1) n)

-- each group of a set can be built, and there are two groups or more, and not too many for a node
pub record GroupsFit (l : Load) (is_root : Bool) (h : ℕ) (set : List ℕ) : Type 0 where
  pub each : AllByRecursion (IsGroupFor l h) (groups_at l is_root (suc h) set)
  pub two : 2 ≤ length (groups_at l is_root (suc h) set)
  pub few : length (groups_at l is_root (suc h) set) ≤ l.most

-- a power, by the next exponent
power : (a h : ℕ) → a ^ (h + 1) ≡ a ^ suc h
power a h = ap (λ (k : ℕ). a ^ k) (let e : h + 1 ≡ suc h = omega arith in e)

two_groups : (g n room : ℕ) → n ≤ g * room → room < n → 2 ≤ g
two_groups zero n room spare more = absurd (omega arith)
two_groups (suc zero) n room spare more = absurd (omega arith)
two_groups (suc (suc g)) n room spare more = omega arith

groups_own : (s : Space) (space : IsSpace s) (rows : List (List ℕ)) (tags : List ℕ) (is_point : AllByRecursion (λ p. IsTrue (s.is_point p)) rows) (is_root : Bool) (h : ℕ) (set : List ℕ) →
    IsSetFor (load s space rows tags is_point) is_root (suc h) set → GroupsFit (load s space rows tags is_point) is_root h set
groups_own s space rows tags is_point is_root h set k = record {
  each = all_weaker (λ (p : Group). IsGood s space rows tags is_point (suc h) p × Ascends 0 p.members) (IsGroupFor (load s space rows tags is_point) h) (groups_at (load s space rows tags is_point) is_root (suc h) set)
      (λ p w. (
        w.0.seed_low,
        record {
          places = w.0.members_low;
          ascends = w.1;
          some = (let a = w.0.enough in omega (arith, a, some));
          above = (λ e. absurd (let c : false ≡ true = e in cc));
          enough = (λ e. let a = w.0.enough in let b = power least h in omega (arith, a, b));
          at_most = (let a = w.0.few in let b = power most h in omega (arith, a, b));
        },
      ))
      (all_both (IsGood s space rows tags is_point (suc h)) (λ (p : Group). Ascends 0 p.members) (groups_at (load s space rows tags is_point) is_root (suc h) set)
      (groups_good s space rows tags is_point is_root (suc h) set k.places k.some (omega (arith, some)) (omega (arith, wide)) count)
      (groups_ascend 0 (seeds_from n g 0 g) set (grouped (entry (table_of (load s space rows tags is_point) set (seeds_from n g 0 g))) (least ^ suc h) (most ^ suc h) g n) k.ascends));
  two = (let l = long in cases is_root refl l);
  few = (let l = long in let u = group_most most least is_root (most ^ suc h) n (let f = four in omega (arith, f)) in omega (arith, l, u));
}
  where
    most : ℕ
    most = most_for s.dimension

    least : ℕ
    least = least_for s.dimension

    n : ℕ
    n = length set

    g : ℕ
    g = group_count (most_for s.dimension) (least_for s.dimension) is_root (most_for s.dimension ^ suc h) (length set)

    three : 3 ≤ least
    three = three_at_least s.dimension space.few_coordinates

    four : 4 * least ≤ most
    four = four_times s space rows tags is_point

    some : 1 ≤ least ^ suc h
    some = power_some least (suc h) (let t = three in omega (arith, t))

    wide : 4 * least ^ suc h ≤ most ^ suc h
    wide = powers_wide most least h four

    room : n ≤ most * most ^ suc h
    room = let a = k.at_most in let b = power most (suc h) in let c = pow-suc most (suc h) in omega (arith, a, b, c)

    enough : is_root ≡ false → least * least ^ suc h ≤ n
    enough e = let a = k.enough e in let b = power least (suc h) in let c = pow-suc least (suc h) in omega (arith, a, b, c)

    count : Fits (least ^ suc h) (most ^ suc h) n g
    count = count_fits most least (most ^ suc h) (least ^ suc h) n is_root three four (let a = some in omega (arith, a)) wide (λ e. k.above e (omega arith)) enough room

    long : length (groups_at (load s space rows tags is_point) is_root (suc h) set) ≡ g
    long = groups_long 0 (seeds_from n g 0 g) set (grouped (entry (table_of (load s space rows tags is_point) set (seeds_from n g 0 g))) (least ^ suc h) (most ^ suc h) g n) ∙ length_seeds n g 0 g

    cases : (b : Bool) → is_root ≡ b → length (groups_at (load s space rows tags is_point) is_root (suc h) set) ≡ g → 2 ≤ length (groups_at (load s space rows tags is_point) is_root (suc h) set)
    cases true e l = let t = two_groups g n (most ^ suc h) count.spare (k.above e (omega arith)) in omega (arith, t, l)
    cases false e l =
        let b = group_least most least (most ^ suc h) n in
        let same : g ≡ group_count most least false (most ^ suc h) n = ap (λ (r : Bool). group_count most least r (most ^ suc h) n) e in
        let t = three in omega (arith, b, l, t, same)

module _ (l : Load) (space : IsSpace l.space) (valid : IsValidLoad l) where
  pub same_load : load l.space space l.points l.tags valid.is_point ≡ l
  same_load =
      ap (λ (m : ℕ). record { space = l.space; points = l.points; tags = l.tags; most = m; least = least_for l.space.dimension }) (sym valid.most)
      ∙ ap (λ (m : ℕ). record { space = l.space; points = l.points; tags = l.tags; most = l.most; least = m }) (sym valid.least)

  pub groups_fit : (is_root : Bool) (h : ℕ) (set : List ℕ) → IsSetFor l is_root (suc h) set → GroupsFit l is_root h set
  groups_fit is_root h set =
      subst (λ (x : Load). IsSetFor x is_root (suc h) set → GroupsFit x is_root h set) same_load (groups_own l.space space l.points l.tags valid.is_point is_root h set)

  pub most_some : 12 ≤ l.most
  most_some =
      let a = three_at_least l.space.dimension space.few_coordinates in let b = four_times l.space space l.points l.tags valid.is_point in let c = valid.most in omega (arith, a, b, c)

  -- no more than two nodes for each object
  pub nodes_few : (number : ℕ → ℕ) (h : ℕ) (seed : Option ℕ) (set : List ℕ) (i : ℕ) → IsSetFor l (is_top seed) h set → length (nodes_at l number h seed set i) + 1 ≤ 2 * length set
  nodes_few number zero seed set i k = let s = k.some in omega (arith, s)
  nodes_few number (suc h) seed set i k =
      let fit = groups_fit (is_top seed) h set k in
      let all = groups_at_weigh l some (λ (o : Object). true) (is_top seed) (suc h) set in
      let own = weighed set in
      let deep = go (λ g j. nodes_at l number h (Some g.seed) g.members j) (λ g j w. nodes_few number h (Some g.seed) g.members j w) i (groups_at l (is_top seed) (suc h) set) fit.each in
      let two = fit.two in
      let more = length-append (below_groups (λ (g : Group) (j : ℕ). nodes_at l number h (Some g.seed) g.members j) i (groups_at l (is_top seed) (suc h) set))
      (Inner (suc h) (group_entries l number seed (λ (g : Group) (j : ℕ). nodes_at l number h (Some g.seed) g.members j) i (groups_at l (is_top seed) (suc h) set)) ∷ []) in
      omega (arith, all, own, deep, two, more)
    where
      some : 1 ≤ l.most
      some = let m = most_some in omega (arith, m)

      weighed : (ks : List ℕ) → weigh (weight_of l some (λ (o : Object). true)) ks ≡ length ks
      weighed [] = refl
      weighed (j ∷ ks) = let ih = weighed ks in omega (arith, ih)

      go : (f : Group → ℕ → List Node) → ((g : Group) (j : ℕ) → IsSetFor l false h g.members → length (f g j) + 1 ≤ 2 * length g.members) → (j : ℕ) (gs : List Group) → AllByRecursion (IsGroupFor l h) gs →
          length (below_groups f j gs) + length gs ≤ 2 * weigh_all (weight_of l some (λ (o : Object). true)) gs
      go f each j [] ok = omega arith
      go f each j (g ∷ gs) ok =
          let here = each g j ok.0.1 in
          let rest = go f each (j + length (f g j)) gs ok.1 in
          let own = weighed g.members in
          let a = length-append (f g j) (below_groups f (j + length (f g j)) gs) in omega (arith, here, rest, own, a)

  -- the height of the tree of all rows
  height_fits : (length l.points ≤ l.most ^ suc (height_of l.most (length l.points))) × ((height_of l.most (length l.points) ≡ 0) ⊎ (l.most ^ height_of l.most (length l.points) < length l.points))
  height_fits =
      let n : ℕ = length l.points in
      let m = most_some in
      let up : length l.points ≤ l.most ^ suc (length l.points) = (let h = grows l.most (suc (length l.points)) (omega (arith, m)) in omega (arith, h)) in
      let is = height_is l.most n 0 n (subst (λ (k : ℕ). n ≤ l.most ^ k) (let e : suc n ≡ 0 + n + 1 = omega arith in e) up) in
      (subst (λ (k : ℕ). n ≤ l.most ^ k) (let e : height_of l.most n + 1 ≡ suc (height_of l.most n) = omega arith in e) is.0, is.1)

  -- the set of all rows
  pub top_fits : 0 < length l.points → IsSetFor l true (height_of l.most (length l.points)) (places l)
  top_fits some =
      let long = places_long 0 (length l.points) in
      let fit = height_fits in
      record {
        places = places_low 0 (length l.points) (length l.points) (omega arith);
        ascends = places_ascend 0 (length l.points);
        some = omega (arith, long, some);
        above = λ e high. elim fit.1 [ inl none ↦ absurd (omega (arith, none, high)) | inr more ↦ omega (arith, more, long) ];
        enough = λ e. absurd (let c : true ≡ false = e in cc);
        at_most = (let a = fit.0 in let b = power l.most (height_of l.most (length l.points)) in omega (arith, a, b, long));
      }

  four_power : (h : ℕ) → 2 ^ (h + h) ≤ l.most ^ h
  four_power zero = let a = pow-zero l.most in omega (arith, a)
  four_power (suc h) =
      let ih = four_power h in
      let a = pow-suc l.most h in
      let m : l.most ^ h * 4 ≤ l.most ^ h * l.most = mul-le-mul_left (l.most ^ h) (let s = most_some in omega (arith, s)) in
      let b : 2 ^ (suc h + suc h) ≡ 2 ^ suc (suc (h + h)) = ap (λ (k : ℕ). 2 ^ k) (let e : suc h + suc h ≡ suc (suc (h + h)) = omega arith in e) in
      let c = pow-suc 2 (suc (h + h)) in
      let d = pow-suc 2 (h + h) in omega (arith, ih, a, m, b, c, d)

  -- no tree of at most 2^24 rows is higher than 12
  pub height_low : length l.points ≤ 2 ^ 24 → height_of l.most (length l.points) ≤ 12
  height_low few = elim height_fits.1 [
    | inl none ↦ omega (arith, none)
    | inr more ↦ lower_or (height_of l.most (length l.points)) 13 (λ low. omega (arith, low))
        (λ high. absurd (
        let a = four_power (height_of l.most (length l.points)) in
        let b : 2 ^ 26 ≤ 2 ^ (height_of l.most (length l.points) + height_of l.most (length l.points)) = pow_mono {i = 26} (omega (arith, high)) in omega (arith, a, b, more, few)))
  ]

-- as many nodes as there are subtrees
pub nodes_long : (l : Load) (number : ℕ → ℕ) (h : ℕ) (seed : Option ℕ) (set : List ℕ) (i : ℕ) → length (nodes_at l number h seed set i) ≡ length (subtrees h (built_at l (is_top seed) h set))
nodes_long l number zero seed set i = refl
nodes_long l number (suc h) seed set i = inner (groups_at l (is_top seed) (suc h) set) (λ g j. nodes_at l number h (Some g.seed) g.members j) (λ g j. nodes_long l number h (Some g.seed) g.members j)
  where
    go : (f : Group → ℕ → List Node) → ((g : Group) (j : ℕ) → length (f g j) ≡ length (subtrees h (built_at l false h g.members))) → (j : ℕ) (gs : List Group) →
        length (below_groups f j gs) ≡ length (flat_map (λ (b : Branch (Plain h)). subtrees h b.below) (map (group_branch l h) gs))
    go f each j [] = refl
    go f each j (g ∷ gs) =
        let a = length-append (f g j) (below_groups f (j + length (f g j)) gs) in
        let b = length-append (subtrees h (built_at l false h g.members)) (flat_map (λ (b : Branch (Plain h)). subtrees h b.below) (map (group_branch l h) gs)) in
        let c = each g j in
        let d = go f each (j + length (f g j)) gs in omega (arith, a, b, c, d)

    inner : (gs : List Group) (f : Group → ℕ → List Node) → ((g : Group) (j : ℕ) → length (f g j) ≡ length (subtrees h (built_at l false h g.members))) →
        length (below_groups f i gs ++ Inner (suc h) (group_entries l number seed f i gs) ∷ []) ≡ length (subtrees (suc h) (map (group_branch l h) gs))
    inner gs f each =
        let a = length-append (below_groups f i gs) (Inner (suc h) (group_entries l number seed f i gs) ∷ []) in
        let b = length-append (flat_map (λ (b : Branch (Plain h)). subtrees h b.below) (map (group_branch l h) gs)) (tall (map (group_branch l h) gs) ∷ []) in
        let c = go f each i gs in omega (arith, a, b, c)
      where
        tall : Plain (suc h) → Tall
        tall t = record { height = suc h; tree = t }

-- the set of the root is the one with no seed
pub top_is : (seed : Option ℕ) (none : Bool) → is_some seed ≡ not none → none ≡ is_top seed
top_is None true e = refl
top_is None false e = cc
top_is (Some k) true e = cc
top_is (Some k) false e = refl
