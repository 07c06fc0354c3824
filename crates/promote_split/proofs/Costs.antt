-- A pair with an entry far from both costs as much as the entry reaches, however the others are dealt.
use Rattle.std.proofs.Common.{◌≡◌, ◌≢◌, ℕ, zero, suc, ◌+◌, ◌-◌, ◌<◌, ◌≤◌, Bool, true, false, cond, List, [], ◌∷◌, refl, sym, ap, arith, ◌∙◌, length, map, get_or}
use Rattle.std.specs.Prelude.{filter, Option, Some, None, if◌then◌else◌, ◌==◌, nat_le, slice_set, max}
use Rattle.std.specs.List.{range_with_len}
use Rattle.std.proofs.lemmas.Bool.Decides.{nat_tests}
use Rattle.std.proofs.lemmas.Grind.{get_or-set_at}
use Rattle.std.proofs.lemmas.List.{length-set, get_or-set_other}
use Rattle.std.proofs.lemmas.List.FromFn.{length-map-range_with_len, get_or-map-range_with_len}
use Rattle.tree_growth.specs.Dealing.{Table, size, apart, is_on, side_at, put_on, received, in_turn, nearer, by_nearer, count_on, filled_up, hyperplane, balanced, partitioned, reach, greatest, group_radius, cost_of, pair_cost}
use Rattle.tree_growth.specs.Splits.{IsFairPartition}
use Rattle.tree_growth.specs.declared.rules.Side.{Side}
use Rattle.tree_growth.specs.declared.rules.Side.TheVariants.{First, Second, Open}
use Rattle.tree_growth.proofs.Published.{tally_sides, count_is_tally, partition_is_fair}

-- each of n entries is in one of the two groups
pub record AllDealt (n : ℕ) (sides : List Side) : Type 0 where
  pub long : length sides ≡ n
  pub none_open : (i : ℕ) → i < n → is_on Open (side_at sides i) ≡ false

put_dealt : (n : ℕ) (to : Side) (sides : List Side) (place : Option ℕ) → is_on Open to ≡ false → AllDealt n sides → AllDealt n (put_on to sides place)
put_dealt n to sides None group all = all
put_dealt n to sides (Some j) group all = record { long = length-set sides j to ∙ all.long; none_open = λ i low. cases i low (i == j) refl }
  where
    cases : (i : ℕ) → i < n → (b : Bool) → (i == j) ≡ b → is_on Open (get_or (slice_set sides j to) i Open) ≡ false
    cases i low true e =
        let same : i ≡ j = grind (arith, nat_tests) in
        let inside : j < length sides = (let l = all.long in omega arith) in
        ap (is_on Open) (get_or-set_at sides j i to Open same inside) ∙ group
    cases i low false e = let other : i ≢ j = grind (arith, nat_tests) in ap (is_on Open) (get_or-set_other sides j i to Open other) ∙ all.none_open i low

turns_dealt : (n k : ℕ) (f g : List Side → List Side) → ((ss : List Side) → AllDealt n ss → AllDealt n (f ss)) → ((ss : List Side) → AllDealt n ss → AllDealt n (g ss)) →
    (ss : List Side) → AllDealt n ss → AllDealt n (in_turn k f g ss)
turns_dealt n zero f g keeps_f keeps_g ss all = all
turns_dealt n (suc k) f g keeps_f keeps_g ss all = turns_dealt n k g f keeps_g keeps_f (f ss) (keeps_f ss all)

nearer_dealt : (t : Table) (a b : ℕ) → AllDealt (size t) (by_nearer t a b)
nearer_dealt t a b = record {
  long = length-map-range_with_len (nearer t a b) 0 (size t);
  none_open = λ i low. ap (is_on Open) (get_or-map-range_with_len (nearer t a b) 0 (size t) i i Open low (omega arith)) ∙ cases (i == a) (i == b) (nat_le (apart t a i) (apart t b i));
}
  where
    cases : (p q r : Bool) → is_on Open (if p then First else (if q then Second else (if r then First else Second))) ≡ false
    cases true q r = refl
    cases false true r = refl
    cases false false true = refl
    cases false false false = refl

hyperplane_dealt : (t : Table) (a b least : ℕ) → AllDealt (size t) (hyperplane t a b least)
hyperplane_dealt t a b least = fill b First Second refl (filled_up t a b least a Second First (by_nearer t a b)) (fill a Second First refl (by_nearer t a b) (nearer_dealt t a b))
  where
    fill : (own : ℕ) (from to : Side) → is_on Open to ≡ false → (ss : List Side) → AllDealt (size t) ss → AllDealt (size t) (filled_up t a b least own from to ss)
    fill own from to group ss all =
        let keeps : (ss : List Side) → AllDealt (size t) ss → AllDealt (size t) (received t a b own from to ss) = λ ss all. put_dealt (size t) to ss _ group all in
        turns_dealt (size t) (least - count_on to ss) (received t a b own from to) (received t a b own from to) keeps keeps ss all

none_open : (sides : List Side) → tally_sides Open sides ≡ 0 → (i : ℕ) → i < length sides → is_on Open (get_or sides i Open) ≡ false
none_open [] none i low = absurd (omega arith)
none_open (First ∷ sides) none zero low = refl
none_open (First ∷ sides) none (suc i) low = none_open sides none i (omega arith)
none_open (Second ∷ sides) none zero low = refl
none_open (Second ∷ sides) none (suc i) low = none_open sides none i (omega arith)
none_open (Open ∷ sides) none i low = absurd (omega arith)

balanced_dealt : (t : Table) (a b : ℕ) → a < size t → b < size t → a ≢ b → 2 ≤ size t → AllDealt (size t) (balanced t a b)
balanced_dealt t a b low_a low_b distinct two =
    let f : IsFairPartition (size t) a b 1 (balanced t a b) = partition_is_fair t a b 2 1 low_a low_b distinct (omega arith) (omega arith) in
    record { long = f.long; none_open = λ i low. none_open (balanced t a b) (count_is_tally Open (balanced t a b) ∙ f.none_open) i (let l = f.long in omega arith) }

all_dealt : (t : Table) (a b split least : ℕ) → a < size t → b < size t → a ≢ b → 2 ≤ size t → AllDealt (size t) (partitioned t a b split least)
all_dealt t a b split least low_a low_b distinct two = cases (split == 1)
  where
    cases : (c : Bool) → AllDealt (size t) (if c then hyperplane t a b least else balanced t a b)
    cases true = hyperplane_dealt t a b least
    cases false = balanced_dealt t a b low_a low_b distinct two

-- the greatest number is no less than that of a place that is counted
below_greatest : (f : ℕ → ℕ) (p : ℕ → Bool) (k n i : ℕ) → k ≤ i → i < k + n → p i ≡ true → f i ≤ greatest (map f (filter p (range_with_len k n)))
below_greatest f p k zero i low high is = absurd (omega arith)
below_greatest f p k (suc n) i low high is = cases (k == i) refl (p k) refl (below_greatest f p (k + 1) n i)
  where
    cases : (c : Bool) → (k == i) ≡ c → (b : Bool) → p k ≡ b → (k + 1 ≤ i → i < k + 1 + n → p i ≡ true → f i ≤ greatest (map f (filter p (range_with_len (k + 1) n)))) →
        f i ≤ greatest (map f (cond b (k ∷ filter p (range_with_len (k + 1) n)) (filter p (range_with_len (k + 1) n))))
    cases true e true on ih = let same : k ≡ i = grind (arith, nat_tests) in let g : f k ≡ f i = ap f same in omega arith
    cases true e false on ih = let same : k ≡ i = grind (arith, nat_tests) in absurd (wrong (sym is ∙ sym (ap p same) ∙ on))
      where
        wrong : true ≡ false → ⊥
        wrong w = cc
    cases false e true on ih = let other : k ≢ i = grind (arith, nat_tests) in let h = ih (omega arith) (omega arith) is in omega arith
    cases false e false on ih = let other : k ≢ i = grind (arith, nat_tests) in ih (omega arith) (omega arith) is

covers : (promote r s c : ℕ) → c ≤ max r s → c ≤ cost_of promote r s
covers promote r s c within = cases (promote == 1)
  where
    cases : (b : Bool) → c ≤ (if b then r + s else max r s)
    cases true = omega arith
    cases false = within

pub cost_covers : (t : Table) (promote split least a b i c : ℕ) → a < size t → b < size t → a ≢ b → 2 ≤ size t → i < size t → c ≤ reach t a i → c ≤ reach t b i →
    c ≤ pair_cost t promote split least (a, b)
cost_covers t promote split least a b i c low_a low_b distinct two low far_a far_b = by_side (partitioned t a b split least) (all_dealt t a b split least low_a low_b distinct two)
  where
    by_side : (sides : List Side) → AllDealt (size t) sides → c ≤ cost_of promote (group_radius t a First sides) (group_radius t b Second sides)
    by_side sides all = covers promote _ _ c (cases (side_at sides i) refl (all.none_open i low))
      where
        inside : i < 0 + length sides
        inside = let l = all.long in omega arith

        cases : (s : Side) → side_at sides i ≡ s → is_on Open (side_at sides i) ≡ false → c ≤ max (group_radius t a First sides) (group_radius t b Second sides)
        cases First is dealt = let r = below_greatest (reach t a) (λ j. is_on First (side_at sides j)) 0 (length sides) i (omega arith) inside (rw is refl) in omega arith
        cases Second is dealt = let r = below_greatest (reach t b) (λ j. is_on Second (side_at sides j)) 0 (length sides) i (omega arith) inside (rw is refl) in omega arith
        cases Open is dealt = absurd (wrong (rw is at dealt))
          where
            wrong : true ≡ false → ⊥
            wrong w = cc
