-- A split by the table is the split of the rules, and both groups have their least.
use Rattle.std.proofs.Common.{◌≡◌, ◌≢◌, ℕ, ◌+◌, ◌*◌, ◌<◌, ◌≤◌, Bool, true, false, List, [], ◌∷◌, refl, sym, ap, arith, ◌∙◌, length, map, subst}
use Rattle.std.specs.Prelude.{if◌then◌else◌}
use Rattle.std.specs.List.{AllByRecursion}
use Rattle.metric_laws.proofs.Published.{all_map, length_map}
use Rattle.metric_laws.specs.Space.{Space, bound}
use Rattle.tree_growth.specs.Dealing.{Ball, Table, size, row, table_of, is_on, count_on, members, partitioned, promoted, point_at, IsPair}
use Rattle.tree_growth.specs.Insertion.{taken, left}
use Rattle.tree_growth.specs.Splits.{IsFairPartition}
use Rattle.tree_growth.specs.declared.rules.Side.{Side}
use Rattle.tree_growth.specs.declared.rules.Side.TheVariants.{First, Second, Open}
use Rattle.tree_growth.proofs.Published.{tally_sides, count_is_tally, tally_members, IsFair, fair, taken_tally, left_tally, parts_long, partition_is_fair, row_of_table}
use Rattle.promote_split.specs.declared.halves.Halves.{Halves}
use Rattle.promote_split.specs.Steps.{half_entries}
use Rattle.promote_split.specs.Halves.{AreNear, IsSplitBy, IsSplit}

-- as many places on a side as entries
pub members_count : (on : Side) (ss : List Side) → length (members on ss) ≡ count_on on ss
members_count on ss = sym (tally_members on ss) ∙ count_is_tally on ss

-- both groups of a partition have their least
pub enough : (t : Table) (a b split least : ℕ) (sides ss rr : List Side) (first second : List ℕ) → a < size t → b < size t → a ≢ b → 1 ≤ least → 2 * least ≤ size t →
    sides ≡ partitioned t a b split least → ss ≡ sides → rr ≡ sides → first ≡ members First ss → second ≡ members Second rr →
    (least ≤ length first) × (least ≤ length second)
enough t a b split least sides ss rr first second low_a low_b distinct some room is same same2 is_first is_second =
    let f : IsFairPartition (size t) a b least (partitioned t a b split least) = partition_is_fair t a b split least low_a low_b distinct some room in
    let one : length first ≡ count_on First (partitioned t a b split least) = ap length is_first ∙ members_count First ss ∙ ap (count_on First) (same ∙ is) in
    let two : length second ≡ count_on Second (partitioned t a b split least) = ap length is_second ∙ members_count Second rr ∙ ap (count_on Second) (same2 ∙ is) in
    let e = f.first_enough in let d = f.second_enough in (omega arith, omega arith)

-- the half with the first side
pub half_taken : {E : Type 0} (set : E → ℕ → E) (ball : E → Ball) (g : Ball → ℕ) (on : Side) (sides : List Side) (es : List E) →
    half_entries set on (map g (map ball es)) sides es ≡ map (λ e. set e (g (ball e))) (taken (map (is_on on) sides) es)
half_taken set ball g on [] es = refl
half_taken set ball g on (s ∷ sides) [] = refl
half_taken {E} set ball g on (s ∷ sides) (e ∷ es) = cases (is_on on s) (half_taken set ball g on sides es)
  where
    cases : (b : Bool) → half_entries set on (map g (map ball es)) sides es ≡ map (λ e. set e (g (ball e))) (taken (map (is_on on) sides) es) →
        (if b then set e (g (ball e)) ∷ half_entries set on (map g (map ball es)) sides es else half_entries set on (map g (map ball es)) sides es)
        ≡ map (λ e. set e (g (ball e))) (if b then e ∷ taken (map (is_on on) sides) es else taken (map (is_on on) sides) es)
    cases true ih = ap (λ r. set e (g (ball e)) ∷ r) ih
    cases false ih = ih

-- the half with the second side, where no entry is open
pub half_left : {E : Type 0} (set : E → ℕ → E) (ball : E → Ball) (g : Ball → ℕ) (sides : List Side) (es : List E) → length sides ≡ length es → tally_sides Open sides ≡ 0 →
    half_entries set Second (map g (map ball es)) sides es ≡ map (λ e. set e (g (ball e))) (left (map (is_on First) sides) es)
half_left set ball g [] [] long none = refl
half_left set ball g [] (e ∷ es) long none = absurd (omega arith)
half_left set ball g (s ∷ sides) [] long none = absurd (omega arith)
half_left set ball g (First ∷ sides) (e ∷ es) long none = half_left set ball g sides es (omega arith) none
half_left set ball g (Second ∷ sides) (e ∷ es) long none = ap (λ r. set e (g (ball e)) ∷ r) (half_left set ball g sides es (omega arith) none)
half_left set ball g (Open ∷ sides) (e ∷ es) long none = absurd (omega arith)

pub split_is : {E : Type 0} (s : Space) (ball : E → Ball) (set : E → ℕ → E) (promote split least : ℕ) (es : List E) (h : Halves E) → 1 ≤ least → 2 * least ≤ length es →
    IsPair (length es) (promoted (table_of s (map ball es)) promote split least) →
    IsSplitBy ball set (table_of s (map ball es)) promote split least es h → IsSplit s ball set promote split least es h
split_is {E} s ball set promote split least es h some room pair by = (
  record {
    point_is = by.0.point_is;
    radius_is = by.0.radius_is;
    entries_are = by.0.entries_are ∙ ap (λ (ds : List ℕ). half_entries set First ds sides es) (row_of_table s bs p.0 (let m = length_map ball es in let l = pair.0 in let h = pair.1 in omega arith)) ∙ half_taken set ball (λ q. s.dist q.0 (point_at bs p.0)) First sides es;
  },
  record {
    point_is = by.1.point_is;
    radius_is = by.1.radius_is;
    entries_are = by.1.entries_are ∙ ap (λ (ds : List ℕ). half_entries set Second ds sides es) (row_of_table s bs p.1 (let m = length_map ball es in let h = pair.1 in omega arith)) ∙ half_left set ball (λ q. s.dist q.0 (point_at bs p.1)) sides es (f.holds.long ∙ n) f.none_open;
  },
)
  where
    bs : List Ball
    bs = map ball es

    p : ℕ × ℕ
    p = promoted (table_of s (map ball es)) promote split least

    sides : List Side
    sides = partitioned (table_of s (map ball es)) (promoted (table_of s (map ball es)) promote split least).0 (promoted (table_of s (map ball es)) promote split least).1 split least

    n : size (table_of s (map ball es)) ≡ length es
    n = length_map (λ (b : Ball). b.1) (map ball es) ∙ length_map ball es

    f : IsFair (size (table_of s (map ball es))) (promoted (table_of s (map ball es)) promote split least).0 (promoted (table_of s (map ball es)) promote split least).1 least
        (partitioned (table_of s (map ball es)) (promoted (table_of s (map ball es)) promote split least).0 (promoted (table_of s (map ball es)) promote split least).1 split least)
    f = fair (table_of s (map ball es)) (promoted (table_of s (map ball es)) promote split least).0 (promoted (table_of s (map ball es)) promote split least).1 split least
        (let m = n in let l = pair.0 in let h = pair.1 in omega arith) (let m = n in let h = pair.1 in omega arith) (λ same. let l = pair.0 in absurd (omega arith)) some (let m = n in omega arith)

pub pair_at_table : {E : Type 0} (s : Space) (ball : E → Ball) (promote split least : ℕ) (es fs : List E) (t : Table) →
    fs ≡ es → t ≡ table_of s (map ball fs) → IsPair (size t) (promoted t promote split least) → IsPair (length es) (promoted (table_of s (map ball es)) promote split least)
pair_at_table s ball promote split least es fs t same is pair =
    let n = length_map (λ (b : Ball). b.1) (map ball es) ∙ length_map ball es in
    let q = subst (λ (u : Table). IsPair (size u) (promoted u promote split least)) (is ∙ ap (λ (gs : List _). table_of s (map ball gs)) same) pair in
    subst (λ (k : ℕ). IsPair k (promoted (table_of s (map ball es)) promote split least)) n q

pub split_at_table : {E : Type 0} (s : Space) (ball : E → Ball) (set : E → ℕ → E) (promote split least : ℕ) (es fs : List E) (t : Table) (h : Halves E) → 1 ≤ least → 2 * least ≤ length es →
    fs ≡ es → t ≡ table_of s (map ball fs) → IsPair (size t) (promoted t promote split least) →
    IsSplitBy ball set t promote split least es h → IsSplit s ball set promote split least es h
split_at_table s ball set promote split least es fs t h some room same is pair by =
    split_is s ball set promote split least es h some room (pair_at_table s ball promote split least es fs t same is pair)
    (subst (λ (u : Table). IsSplitBy ball set u promote split least es h) (is ∙ ap (λ (gs : List _). table_of s (map ball gs)) same) by)

-- each half has its least, and the halves have all entries
pub shares : {E : Type 0} (s : Space) (ball : E → Ball) (set : E → ℕ → E) (promote split least : ℕ) (es : List E) (h : Halves E) → 1 ≤ least → 2 * least ≤ length es →
    IsPair (length es) (promoted (table_of s (map ball es)) promote split least) → IsSplit s ball set promote split least es h →
    (least ≤ length h.first.entries) × (least ≤ length h.second.entries) × (length h.first.entries + length h.second.entries ≡ length es)
shares {E} s ball set promote split least es h some room pair is =
    let one : length h.first.entries ≡ length (taken (map (is_on First) sides) es) = ap length is.0.entries_are ∙ length_map _ (taken (map (is_on First) sides) es) in
    let two : length h.second.entries ≡ length (left (map (is_on First) sides) es) = ap length is.1.entries_are ∙ length_map _ (left (map (is_on First) sides) es) in
    let f1 = taken_tally sides es (f.holds.long ∙ n) in
    let f2 = left_tally sides es (f.holds.long ∙ n) f.none_open in
    let all = parts_long (map (is_on First) sides) es in
    let e = f.first_enough in let d = f.second_enough in (omega arith, omega arith, omega arith)
  where
    sides : List Side
    sides = partitioned (table_of s (map ball es)) (promoted (table_of s (map ball es)) promote split least).0 (promoted (table_of s (map ball es)) promote split least).1 split least

    n : size (table_of s (map ball es)) ≡ length es
    n = length_map (λ (b : Ball). b.1) (map ball es) ∙ length_map ball es

    f : IsFair (size (table_of s (map ball es))) (promoted (table_of s (map ball es)) promote split least).0 (promoted (table_of s (map ball es)) promote split least).1 least
        (partitioned (table_of s (map ball es)) (promoted (table_of s (map ball es)) promote split least).0 (promoted (table_of s (map ball es)) promote split least).1 split least)
    f = fair (table_of s (map ball es)) (promoted (table_of s (map ball es)) promote split least).0 (promoted (table_of s (map ball es)) promote split least).1 split least
        (let m = n in let l = pair.0 in let h = pair.1 in omega arith) (let m = n in let h = pair.1 in omega arith) (λ same. let l = pair.0 in absurd (omega arith)) some (let m = n in omega arith)

-- a row without a distance above the bound
pub near_half : {E : Type 0} (s : Space) (ball : E → Ball) (es fs : List E) (t : Table) (p : ℕ) (q : List ℕ) → fs ≡ es → t ≡ table_of s (map ball fs) → p < size t → q ≡ point_at (map ball es) p →
    AllByRecursion (λ d. d ≤ bound) (row t p) → AreNear s ball es q
near_half s ball es fs t p q same is low is_point all =
    let whole : t ≡ table_of s (map ball es) = is ∙ ap (λ (gs : List _). table_of s (map ball gs)) same in
    let n : size (table_of s (map ball es)) ≡ length (map ball es) = length_map (λ (b : Ball). b.1) (map ball es) in
    let low' : p < length (map ball es) = subst (λ (k : ℕ). p < k) n (subst (λ (u : Table). p < size u) whole low) in
    let e : row t p ≡ map (λ (b : Ball). s.dist b.0 (point_at (map ball es) p)) (map ball es) =
    ap (λ (u : Table). row u p) whole ∙ row_of_table s (map ball es) p low' in
    rw is_point (all_map (λ (b : Ball). s.dist b.0 (point_at (map ball es) p) ≤ bound) ball es
    (all_map (λ d. d ≤ bound) (λ (b : Ball). s.dist b.0 (point_at (map ball es) p)) (map ball es) (subst (AllByRecursion (λ d. d ≤ bound)) e all)))
