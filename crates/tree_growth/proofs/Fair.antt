-- Both groups of a partition have their share.
use Rattle.std.proofs.Common.{◌≡◌, ◌≢◌, ℕ, zero, suc, ◌+◌, ◌-◌, ◌<◌, ◌≤◌, Bool, true, false, cond, not, ◌&&◌, List, [], ◌∷◌, refl, sym, ap, arith, ◌∙◌, length, map, subst, inl, inr}
use Rattle.std.specs.Prelude.{filter, if◌then◌else◌, ◌==◌, slice_set, nat_le}
use Rattle.std.specs.List.{range_with_len}
use Rattle.std.proofs.lemmas.Bool.Decides.{nat_tests}
use Rattle.std.proofs.lemmas.List.{length-set, get_or-set_other}
use Rattle.std.proofs.lemmas.List.FromFn.{fill_by_all, length-map-range_with_len, get_or-map-range_with_len}
use Rattle.std.proofs.lemmas.List.Recursion.{is_count_by}
use Rattle.metric_laws.specs.Lists.{IsIn}
use Rattle.metric_laws.proofs.Published.{in-filter}
use Rattle.tree_growth.proofs.Added.{least_in}
use Rattle.tree_shape.specs.Tree.{times}
use Rattle.tree_growth.specs.Dealing.{is_on, Table, size, apart, first_least, least_from, side_at, may_leave, put_on, received, in_turn, nearer, by_nearer, count_on, filled_up, hyperplane, only_promoted, balanced, partitioned}
use Rattle.tree_growth.specs.declared.rules.Side.{Side}
use Rattle.tree_growth.specs.declared.rules.Side.TheVariants.{First, Second, Open}

-- how many stand on a side
abbrev pub tally_sides : Side → List Side → ℕ
tally_sides on [] = 0
tally_sides on (s ∷ ss) = cond (is_on on s) (1 + tally_sides on ss) (tally_sides on ss)

pub count_is_tally : (on : Side) (ss : List Side) → tally_sides on ss ≡ count_on on ss
count_is_tally on ss = is_count_by (tally_sides on) (is_on on) refl (λ x xs. refl) ss

abbrev pub one : Bool → ℕ
one b = if b then 1 else 0

pub tally_set : (on to : Side) (ss : List Side) (i : ℕ) → i < length ss → tally_sides on (slice_set ss i to) + one (is_on on (side_at ss i)) ≡ tally_sides on ss + one (is_on on to)
tally_set on to [] i low = absurd (omega arith)
tally_set on to (s ∷ ss) zero low = cases (is_on on s) (is_on on to) (tally_sides on ss)
  where
    cases : (b d : Bool) (n : ℕ) → cond d (1 + n) n + one b ≡ cond b (1 + n) n + one d
    cases true true n = omega arith
    cases true false n = omega arith
    cases false true n = omega arith
    cases false false n = omega arith
tally_set on to (s ∷ ss) (suc i) low = cases (is_on on s) (one (is_on on (side_at ss i))) (one (is_on on to)) _ _ (tally_set on to ss i (omega arith))
  where
    cases : (b : Bool) (p q m n : ℕ) → m + p ≡ n + q → cond b (1 + m) m + p ≡ cond b (1 + n) n + q
    cases true p q m n e = omega arith
    cases false p q m n e = omega arith

pub tally_map : (on : Side) (f : ℕ → Side) (xs : List ℕ) → tally_sides on (map f xs) ≡ length (filter (λ i. is_on on (f i)) xs)
tally_map on f [] = refl
tally_map on f (x ∷ xs) = cases (is_on on (f x)) (tally_map on f xs)
  where
    cases : (b : Bool) → tally_sides on (map f xs) ≡ length (filter (λ i. is_on on (f i)) xs) →
        cond b (1 + tally_sides on (map f xs)) (tally_sides on (map f xs)) ≡ length (cond b (x ∷ filter (λ i. is_on on (f i)) xs) (filter (λ i. is_on on (f i)) xs))
    cases true ih = omega (arith, ih)
    cases false ih = ih

pub tally_members : (on : Side) (ss : List Side) → tally_sides on ss ≡ length (filter (λ i. is_on on (side_at ss i)) (range_with_len 0 (length ss)))
tally_members on ss = ap (tally_sides on) (fill_by_all (side_at ss) ss (length ss) Open refl (λ k low. refl)) ∙ tally_map on (side_at ss) (range_with_len 0 (length ss))

pub tally_all : (ss : List Side) → tally_sides First ss + tally_sides Second ss + tally_sides Open ss ≡ length ss
tally_all [] = refl
tally_all (First ∷ ss) = let ih = tally_all ss in omega arith
tally_all (Second ∷ ss) = let ih = tally_all ss in omega arith
tally_all (Open ∷ ss) = let ih = tally_all ss in omega arith

pub same_from : (on s : Side) → is_on on s ≡ true → s ≡ on
same_from First First e = refl
same_from Second Second e = refl
same_from Open Open e = refl
same_from First Second e = cc
same_from First Open e = cc
same_from Second First e = cc
same_from Second Open e = cc
same_from Open First e = cc
same_from Open Second e = cc

pub same_self : (s : Side) → is_on s s ≡ true
same_self First = refl
same_self Second = refl
same_self Open = refl

-- how often a number stands among some in a row
pub times_range : (k i n : ℕ) → times k (range_with_len i n) ≤ 1
times_range k i zero = omega arith
times_range k i (suc n) = cases (i == k) refl (times_range k (i + 1) n)
  where
    none : (k j n : ℕ) → k < j → times k (range_with_len j n) ≡ 0
    none k j zero low = refl
    none k j (suc n) low = let ih = none k (j + 1) n (omega arith) in let z : one (j == k) ≡ 0 = grind (arith, nat_tests) in omega arith

    cases : (b : Bool) → (i == k) ≡ b → times k (range_with_len (i + 1) n) ≤ 1 → (if b then 1 else 0) + times k (range_with_len (i + 1) n) ≤ 1
    cases true e ih = let same : i ≡ k = grind (arith, nat_tests) in let z = none k (i + 1) n (omega arith) in omega arith
    cases false e ih = omega arith

pub times_in_range : (k i n : ℕ) → i ≤ k → k < i + n → times k (range_with_len i n) ≡ 1
times_in_range k i zero low high = absurd (omega arith)
times_in_range k i (suc n) low high = cases (i == k) refl (times_in_range k (i + 1) n)
  where
    cases : (b : Bool) → (i == k) ≡ b → (i + 1 ≤ k → k < i + 1 + n → times k (range_with_len (i + 1) n) ≡ 1) → (if b then 1 else 0) + times k (range_with_len (i + 1) n) ≡ 1
    cases true e ih = let same : i ≡ k = grind (arith, nat_tests) in let o = times_range k i (suc n) in let s : one (i == k) ≡ 1 = rw e refl in omega arith
    cases false e ih = let other : i ≢ k = grind (arith, nat_tests) in let h = ih (omega arith) (omega arith) in omega arith

-- a filter loses at most the two promoted ones
pub filter_less : (p : ℕ → Bool) (a b : ℕ) (xs : List ℕ) →
    length (filter p xs) ≤ length (filter (λ i. p i && (not (i == a) && not (i == b))) xs) + times a (filter p xs) + times b (filter p xs)
filter_less p a b [] = omega arith
filter_less p a b (x ∷ xs) = cases (p x) (x == a) (x == b) refl refl (filter_less p a b xs)
  where
    cases : (t u v : Bool) → (x == a) ≡ u → (x == b) ≡ v → length (filter p xs) ≤ length (filter (λ i. p i && (not (i == a) && not (i == b))) xs) + times a (filter p xs) + times b (filter p xs) →
        length (cond t (x ∷ filter p xs) (filter p xs)) ≤ length (cond (t && (not u && not v)) (x ∷ filter (λ i. p i && (not (i == a) && not (i == b))) xs) (filter (λ i. p i && (not (i == a) && not (i == b))) xs))
        + times a (cond t (x ∷ filter p xs) (filter p xs)) + times b (cond t (x ∷ filter p xs) (filter p xs))
    cases false u v e f ih = ih
    cases true true v e f ih = let o : one (x == a) ≡ 1 = rw e refl in omega (arith, ih)
    cases true false true e f ih = let o : one (x == b) ≡ 1 = rw f refl in omega (arith, ih)
    cases true false false e f ih = omega (arith, ih)

pub times_filter : (p : ℕ → Bool) (k : ℕ) (xs : List ℕ) → times k (filter p xs) ≤ times k xs
times_filter p k [] = omega arith
times_filter p k (x ∷ xs) = cases (p x) (times_filter p k xs)
  where
    cases : (b : Bool) → times k (filter p xs) ≤ times k xs → times k (cond b (x ∷ filter p xs) (filter p xs)) ≤ one (x == k) + times k xs
    cases true ih = omega (arith, ih)
    cases false ih = omega (arith, ih)

pub times_filter_out : (p : ℕ → Bool) (k : ℕ) (xs : List ℕ) → p k ≡ false → times k (filter p xs) ≡ 0
times_filter_out p k [] out = refl
times_filter_out p k (x ∷ xs) out = cases (p x) refl (times_filter_out p k xs out)
  where
    cases : (b : Bool) → p x ≡ b → times k (filter p xs) ≡ 0 → times k (cond b (x ∷ filter p xs) (filter p xs)) ≡ 0
    cases false e ih = ih
    cases true e ih = other (x == k) refl
      where
        other : (d : Bool) → (x == k) ≡ d → one (x == k) + times k (filter p xs) ≡ 0
        other true f = let same : x ≡ k = grind (arith, nat_tests) in absurd (wrong (sym e ∙ ap p same ∙ out))
          where
            wrong : true ≡ false → ⊥
            wrong w = cc
        other false f = let z : one (x == k) ≡ 0 = rw f refl in omega (arith, ih)

-- the least of a list is one of it
pub in_range : (k i n : ℕ) → IsIn k (range_with_len i n) → k < i + n
in_range k i zero w = absurd w
in_range k i (suc n) w = elim w [ inl e ↦ omega arith | inr v ↦ (let ih = in_range k (i + 1) n v in omega arith) ]

-- the promoted entries stand on their sides
pub record Holds (n a b : ℕ) (ss : List Side) : Type 0 where
  pub long : length ss ≡ n
  pub first : side_at ss a ≡ First
  pub second : side_at ss b ≡ Second

abbrev pub candidates : ℕ → ℕ → Side → List Side → List ℕ
candidates a b from ss = filter (may_leave a b from ss) (range_with_len 0 (length ss))

-- how many promoted ones stand on a side
abbrev pub fixed : Side → ℕ
fixed First = 1
fixed Second = 1
fixed Open = 0

pub many : (n a b : ℕ) (from : Side) (ss : List Side) → Holds n a b ss → tally_sides from ss ≤ length (candidates a b from ss) + fixed from
many n a b from ss h =
    let l = filter_less (λ i. is_on from (side_at ss i)) a b (range_with_len 0 (length ss)) in
    let m = tally_members from ss in
    let s = share from in omega arith
  where
    at : Side → ℕ → ℕ
    at on k = times k (filter (λ i. is_on on (side_at ss i)) (range_with_len 0 (length ss)))

    once : (on : Side) (k : ℕ) → times k (filter (λ i. is_on on (side_at ss i)) (range_with_len 0 (length ss))) ≤ 1
    once on k = let f = times_filter (λ i. is_on on (side_at ss i)) k (range_with_len 0 (length ss)) in let r = times_range k 0 (length ss) in omega arith

    share : (on : Side) → times a (filter (λ i. is_on on (side_at ss i)) (range_with_len 0 (length ss))) + times b (filter (λ i. is_on on (side_at ss i)) (range_with_len 0 (length ss))) ≤ fixed on
    share First = let u = once First a in let v = times_filter_out (λ i. is_on First (side_at ss i)) b (range_with_len 0 (length ss)) (rw h.second refl) in omega arith
    share Second = let u = once Second b in let v = times_filter_out (λ i. is_on Second (side_at ss i)) a (range_with_len 0 (length ss)) (rw h.first refl) in omega arith
    share Open = let u = times_filter_out (λ i. is_on Open (side_at ss i)) a (range_with_len 0 (length ss)) (rw h.first refl) in
        let v = times_filter_out (λ i. is_on Open (side_at ss i)) b (range_with_len 0 (length ss)) (rw h.second refl) in omega arith

-- what a step does, where an entry may leave
pub record Moves (n a b : ℕ) (from to : Side) (old new : List Side) : Type 0 where
  pub holds : Holds n a b new
  pub from_less : tally_sides from new + 1 ≡ tally_sides from old
  pub to_more : tally_sides to new ≡ tally_sides to old + 1
  pub others : (on : Side) → is_on on from ≡ false → is_on on to ≡ false → tally_sides on new ≡ tally_sides on old

pub parts : (p q r : Bool) → (p && (not q && not r)) ≡ true → (p ≡ true) × (q ≡ false) × (r ≡ false)
parts true false false e = (refl, refl, refl)
parts true true r e = cc
parts true false true e = cc
parts false q r e = cc

pub moves : (t : Table) (n a b own : ℕ) (from to : Side) (ss : List Side) → Holds n a b ss → is_on from to ≡ false → is_on to from ≡ false → 1 ≤ length (candidates a b from ss) →
    Moves n a b from to ss (received t a b own from to ss)
moves t n a b own from to ss h apart₁ apart₂ some = go (candidates a b from ss) refl some
  where
    go : (xs : List ℕ) → candidates a b from ss ≡ xs → 1 ≤ length xs → Moves n a b from to ss (put_on to ss (first_least (λ i. apart t own i) xs))
    go [] e some = absurd (omega arith)
    go (x ∷ xs) e some =
        let i : ℕ = least_from (λ i. apart t own i) x xs in
        let inside = in-filter (may_leave a b from ss) (range_with_len 0 (length ss)) i (subst (λ (zs : List ℕ). IsIn i zs) (sym e) (least_in (λ i. apart t own i) x xs)) in
        let low : i < length ss = (let r = in_range i 0 (length ss) inside.0 in omega arith) in
        let p = parts (is_on from (side_at ss i)) (i == a) (i == b) inside.1 in
        let was : side_at ss i ≡ from = same_from from (side_at ss i) p.0 in
        let not_a : a ≢ i = (let f = p.1 in grind (arith, nat_tests)) in
        let not_b : b ≢ i = (let f = p.2 in grind (arith, nat_tests)) in
        record {
          holds = record { long = length-set ss i to ∙ h.long; first = get_or-set_other ss i a to Open not_a ∙ h.first; second = get_or-set_other ss i b to Open not_b ∙ h.second };
          from_less = (let e = tally_set from to ss i low in let u : one (is_on from (side_at ss i)) ≡ 1 = rw p.0 refl in let v : one (is_on from to) ≡ 0 = rw apart₁ refl in omega arith);
          to_more = (let e = tally_set to to ss i low in let u : one (is_on to (side_at ss i)) ≡ 0 = rw (was, apart₂) refl in let v : one (is_on to to) ≡ 1 = rw (same_self to) refl in omega arith);
          others = λ on f g. (let e = tally_set on to ss i low in let u : one (is_on on (side_at ss i)) ≡ 0 = rw (was, f) refl in let v : one (is_on on to) ≡ 0 = rw g refl in omega arith);
        }

-- `k` steps that each move an entry from one side to another
pub record Moved (n a b k : ℕ) (from to : Side) (old new : List Side) : Type 0 where
  pub holds : Holds n a b new
  pub from_less : tally_sides from new + k ≡ tally_sides from old
  pub to_more : tally_sides to new ≡ tally_sides to old + k
  pub others : (on : Side) → is_on on from ≡ false → is_on on to ≡ false → tally_sides on new ≡ tally_sides on old

pub all_moved : (t : Table) (n a b own k : ℕ) (from to : Side) (ss : List Side) → Holds n a b ss → is_on from to ≡ false → is_on to from ≡ false → k + fixed from ≤ tally_sides from ss →
    Moved n a b k from to ss (in_turn k (received t a b own from to) (received t a b own from to) ss)
all_moved t n a b own zero from to ss h u v enough = record { holds = h; from_less = omega arith; to_more = omega arith; others = λ on f g. refl }
all_moved t n a b own (suc k) from to ss h u v enough =
    let c = many n a b from ss h in
    let m = moves t n a b own from to ss h u v (omega arith) in
    let lost = m.from_less in
    let gained = m.to_more in
    let r = all_moved t n a b own k from to (received t a b own from to ss) m.holds u v (omega arith) in
    let lost' = r.from_less in
    let gained' = r.to_more in
    record { holds = r.holds; from_less = omega arith; to_more = omega arith; others = λ on f g. r.others on f g ∙ m.others on f g }

-- the two sides take in turn all that is open
pub record Dealt (n a b k : ℕ) (to next : Side) (old new : List Side) : Type 0 where
  pub holds : Holds n a b new
  pub none_open : tally_sides Open new ≡ 0
  pub to_more : tally_sides to old + tally_sides to old + k ≤ tally_sides to new + tally_sides to new
  pub next_more : tally_sides next old + tally_sides next old + k ≤ tally_sides next new + tally_sides next new + 1

pub all_dealt : (t : Table) (n a b x y k : ℕ) (to next : Side) (ss : List Side) → Holds n a b ss → is_on Open to ≡ false → is_on to Open ≡ false → is_on Open next ≡ false → is_on next Open ≡ false →
    is_on to next ≡ false → is_on next to ≡ false → tally_sides Open ss ≡ k →
    Dealt n a b k to next ss (in_turn k (received t a b x Open to) (received t a b y Open next) ss)
all_dealt t n a b x y zero to next ss h u u' v v' w w' opens = record { holds = h; none_open = opens; to_more = omega arith; next_more = omega arith }
all_dealt t n a b x y (suc k) to next ss h u u' v v' w w' opens =
    let c = many n a b Open ss h in
    let m = moves t n a b x Open to ss h u u' (omega arith) in
    let lost = m.from_less in
    let gained = m.to_more in
    let same = m.others next v' w' in
    let r = all_dealt t n a b y x k next to (received t a b x Open to ss) m.holds v v' u u' w' w (omega arith) in
    let p = r.to_more in
    let q = r.next_more in
    record { holds = r.holds; none_open = r.none_open; to_more = omega arith; next_more = omega arith }

-- a fair partition: the promoted ones on their sides, none open, and each group with its share
pub record IsFair (n a b least : ℕ) (ss : List Side) : Type 0 where
  pub holds : Holds n a b ss
  pub none_open : tally_sides Open ss ≡ 0
  pub first_enough : least ≤ tally_sides First ss
  pub second_enough : least ≤ tally_sides Second ss

-- filling up one group
pub filled : (t : Table) (n a b least own : ℕ) (from to : Side) (ss : List Side) → Holds n a b ss → is_on from to ≡ false → is_on to from ≡ false → fixed from ≤ least →
    least + least ≤ tally_sides from ss + tally_sides to ss →
    Moved n a b (least - tally_sides to ss) from to ss (filled_up t a b least own from to ss)
filled t n a b least own from to ss h u v few enough =
    subst (λ (k : ℕ). Moved n a b (least - tally_sides to ss) from to ss (in_turn (least - k) (received t a b own from to) (received t a b own from to) ss)) (count_is_tally to ss)
    (cases (least - tally_sides to ss) refl)
  where
    cases : (k : ℕ) → least - tally_sides to ss ≡ k → Moved n a b (least - tally_sides to ss) from to ss (in_turn (least - tally_sides to ss) (received t a b own from to) (received t a b own from to) ss)
    cases zero e = rw e (record { holds = h; from_less = omega arith; to_more = omega arith; others = λ on f g. refl })
    cases (suc k) e = all_moved t n a b own (least - tally_sides to ss) from to ss h u v (omega arith)

pub hyperplane_fair : (t : Table) (a b least : ℕ) → a < size t → b < size t → a ≢ b → 1 ≤ least → least + least ≤ size t → IsFair (size t) a b least (hyperplane t a b least)
hyperplane_fair t a b least low_a low_b distinct some room =
    let ss : List Side = by_nearer t a b in
    let h : Holds (size t) a b ss = record {
      long = length-map-range_with_len (nearer t a b) 0 (size t);
      first = get_or-map-range_with_len (nearer t a b) 0 (size t) a a Open low_a (omega arith) ∙ at_a;
      second = get_or-map-range_with_len (nearer t a b) 0 (size t) b b Open low_b (omega arith) ∙ at_b;
    } in
    let whole = tally_all ss in
    let o : tally_sides Open ss ≡ 0 = no_open (range_with_len 0 (size t)) in
    let l = h.long in
    let m = filled t (size t) a b least a Second First ss h refl refl some (omega arith) in
    let new : List Side = filled_up t a b least a Second First ss in
    let lost = m.from_less in
    let gained = m.to_more in
    let other = m.others Open refl refl in
    let m' = filled t (size t) a b least b First Second new m.holds refl refl some (omega arith) in
    let lost' = m'.from_less in
    let gained' = m'.to_more in
    let other' = m'.others Open refl refl in
    record { holds = m'.holds; none_open = omega arith; first_enough = omega arith; second_enough = omega arith }
  where
    at_a : nearer t a b a ≡ First
    at_a = let e : (a == a) ≡ true = grind (arith, nat_tests) in rw e refl

    at_b : nearer t a b b ≡ Second
    at_b = let f : (b == a) ≡ false = grind (arith, nat_tests) in let e : (b == b) ≡ true = grind (arith, nat_tests) in rw (f, e) refl

    closed : (u v w : Bool) → is_on Open (if u then First else (if v then Second else (if w then First else Second))) ≡ false
    closed true v w = refl
    closed false true w = refl
    closed false false true = refl
    closed false false false = refl

    no_open : (xs : List ℕ) → tally_sides Open (map (nearer t a b) xs) ≡ 0
    no_open [] = refl
    no_open (x ∷ xs) = rw (closed (x == a) (x == b) (nat_le (apart t a x) (apart t b x))) (no_open xs)

pub balanced_fair : (t : Table) (a b least : ℕ) → a < size t → b < size t → a ≢ b → 1 ≤ least → least + least ≤ size t → IsFair (size t) a b least (balanced t a b)
balanced_fair t a b least low_a low_b distinct some room =
    let ss : List Side = map (only_promoted a b) (range_with_len 0 (size t)) in
    let h : Holds (size t) a b ss = record {
      long = length-map-range_with_len (only_promoted a b) 0 (size t);
      first = get_or-map-range_with_len (only_promoted a b) 0 (size t) a a Open low_a (omega arith) ∙ at_a;
      second = get_or-map-range_with_len (only_promoted a b) 0 (size t) b b Open low_b (omega arith) ∙ at_b;
    } in
    let whole = tally_all ss in
    let l = h.long in
    let f : tally_sides First ss ≡ 1 = firsts (range_with_len 0 (size t)) ∙ times_in_range a 0 (size t) (omega arith) (omega arith) in
    let g : tally_sides Second ss ≡ 1 = seconds (range_with_len 0 (size t)) ∙ times_in_range b 0 (size t) (omega arith) (omega arith) in
    let d = all_dealt t (size t) a b a b (size t - 2) First Second ss h refl refl refl refl refl refl (omega arith) in
    let p = d.to_more in
    let q = d.next_more in
    record { holds = d.holds; none_open = d.none_open; first_enough = omega arith; second_enough = omega arith }
  where
    at_a : only_promoted a b a ≡ First
    at_a = let e : (a == a) ≡ true = grind (arith, nat_tests) in rw e refl

    at_b : only_promoted a b b ≡ Second
    at_b = let f : (b == a) ≡ false = grind (arith, nat_tests) in let e : (b == b) ≡ true = grind (arith, nat_tests) in rw (f, e) refl

    firsts : (xs : List ℕ) → tally_sides First (map (only_promoted a b) xs) ≡ times a xs
    firsts [] = refl
    firsts (x ∷ xs) = cases (x == a) (x == b) (firsts xs)
      where
        cases : (u v : Bool) → tally_sides First (map (only_promoted a b) xs) ≡ times a xs →
            cond (is_on First (if u then First else (if v then Second else Open))) (1 + tally_sides First (map (only_promoted a b) xs)) (tally_sides First (map (only_promoted a b) xs)) ≡ one u + times a xs
        cases true v ih = omega arith
        cases false true ih = omega arith
        cases false false ih = omega arith

    seconds : (xs : List ℕ) → tally_sides Second (map (only_promoted a b) xs) ≡ times b xs
    seconds [] = refl
    seconds (x ∷ xs) = cases (x == a) (x == b) refl refl (seconds xs)
      where
        cases : (u v : Bool) → (x == a) ≡ u → (x == b) ≡ v → tally_sides Second (map (only_promoted a b) xs) ≡ times b xs →
            cond (is_on Second (if u then First else (if v then Second else Open))) (1 + tally_sides Second (map (only_promoted a b) xs)) (tally_sides Second (map (only_promoted a b) xs)) ≡ one v + times b xs
        cases true true e f ih = let i : x ≡ a = grind (arith, nat_tests) in let j : x ≡ b = grind (arith, nat_tests) in absurd (distinct (sym i ∙ j))
        cases true false e f ih = omega arith
        cases false true e f ih = omega arith
        cases false false e f ih = omega arith

pub fair : (t : Table) (a b split least : ℕ) → a < size t → b < size t → a ≢ b → 1 ≤ least → least + least ≤ size t → IsFair (size t) a b least (partitioned t a b split least)
fair t a b split least low_a low_b distinct some room = cases (split == 1)
  where
    cases : (v : Bool) → IsFair (size t) a b least (if v then hyperplane t a b least else balanced t a b)
    cases true = hyperplane_fair t a b least low_a low_b distinct some room
    cases false = balanced_fair t a b least low_a low_b distinct some room
