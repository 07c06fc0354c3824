-- Steps of the loops.
use Rattle.std.proofs.Common.{◌≡◌, ℕ, zero, suc, ◌+◌, ◌-◌, ◌<◌, ◌≤◌, Bool, true, false, cond, List, [], ◌∷◌, ◌++◌, refl, sym, ap, arith, ◌∙◌, length, ◌*◌, drop, map, append_assoc, get_or, drop-cons, add-one}
use Rattle.metric_laws.specs.Space.{Space}
use Rattle.std.specs.Prelude.{filter, Option, Some, None, if◌then◌else◌, nat_lt, max}
use Rattle.std.specs.List.{range_with_len, flat_map}
use Rattle.tree_growth.specs.declared.rules.Side.{Side}
use Rattle.tree_growth.specs.Dealing.{Ball, is_on, first_least, least_from, in_turn, greatest, pairs, pairs_with, or_pair}
use Rattle.promote_split.specs.Steps.{kept, kept_if, later, half_entries}
use Rattle.promote_split.specs.Tables.{HasCounted}

pub range_more : (i n : ℕ) → i < n → range_with_len i (n - i) ≡ i ∷ range_with_len (i + 1) (n - (i + 1))
range_more i n low = let e : n - i ≡ suc (n - (i + 1)) = omega arith in rw e refl

-- one more element that passes, or not
pub later_more : {X : Type 0} (f : X → ℕ) (best : Option X) (p : X → Bool) (x : X) (xs : List X) →
    later f best (filter p (x ∷ xs)) ≡ later f (kept_if f p best x) (filter p xs)
later_more {X} f best p x xs = cases (p x) best
  where
    cases : (b : Bool) (best : Option X) → later f best (cond b (x ∷ filter p xs) (filter p xs)) ≡ later f (if b then kept f best x else best) (filter p xs)
    cases true None = refl
    cases true (Some y) = refl
    cases false None = refl
    cases false (Some y) = refl

pub turn_more : {X : Type 0} (n i : ℕ) (f g : X → X) (x : X) → i < n → in_turn (n - i) f g x ≡ in_turn (n - (i + 1)) g f (f x)
turn_more n i f g x low = let e : n - i ≡ suc (n - (i + 1)) = omega arith in rw e refl

-- a further row
pub row_more : {E : Type 0} (s t : Space) (ball : E → Ball) (es : List E) (i : ℕ) (e : E) (p : List ℕ) (old new whole : List ℕ) →
    drop i es ≡ e ∷ drop (i + 1) es → s ≡ t → p ≡ (ball e).0 → new ≡ old ++ map (λ (q : Ball). s.dist q.0 p) (map ball es) →
    old ++ flat_map (λ (p : Ball). map (λ (q : Ball). t.dist q.0 p.0) (map ball es)) (map ball (drop i es)) ≡ whole →
    new ++ flat_map (λ (p : Ball). map (λ (q : Ball). t.dist q.0 p.0) (map ball es)) (map ball (drop (i + 1) es)) ≡ whole
row_more s t ball es i e p old new whole next same point is before =
    rw (is, same, point) (append_assoc old (map (λ (q : Ball). t.dist q.0 (ball e).0) (map ball es)) (flat_map (λ (p : Ball). map (λ (q : Ball). t.dist q.0 p.0) (map ball es)) (map ball (drop (i + 1) es)))
    ∙ (rw next at before))

pub item_next : {E : Type 0} (es : List E) (i : ℕ) (e : E) → i < length es → e ≡ get_or es i e → drop i es ≡ e ∷ drop (i + 1) es
item_next es i e low is = rw add-one (drop-cons es i e low ∙ ap (λ (x : _). x ∷ drop (suc i) es) (sym is))

pub square_more : (i n a b : ℕ) → a ≡ i * n → b ≡ a + n → b ≡ (i + 1) * n
square_more i n a b is more = grind (arith)

-- a further place
pub least_more : (f : ℕ → ℕ) (p : ℕ → Bool) (best new : Option ℕ) (i n : ℕ) (whole : Option ℕ) → i < n → new ≡ kept_if f p best i →
    later f best (filter p (range_with_len i (n - i))) ≡ whole → later f new (filter p (range_with_len (i + 1) (n - (i + 1)))) ≡ whole
least_more f p best new i n whole low is before =
    rw is (sym (later_more f best p i (range_with_len (i + 1) (n - (i + 1)))) ∙ ap (λ (xs : List ℕ). later f best (filter p xs)) (sym (range_more i n low)) ∙ before)

-- a further element of a list made place by place
pub map_more : {X : Type 0} (f : ℕ → X) (i n : ℕ) (old new whole : List X) → i < n → new ≡ old ++ f i ∷ [] →
    old ++ map f (range_with_len i (n - i)) ≡ whole → new ++ map f (range_with_len (i + 1) (n - (i + 1))) ≡ whole
map_more f i n old new whole low is before =
    rw is (append_assoc old (f i ∷ []) (map f (range_with_len (i + 1) (n - (i + 1)))) ∙ ap (λ (xs : List ℕ). old ++ map f xs) (sym (range_more i n low)) ∙ before)

-- a further turn
pub turn_next : {X : Type 0} (n i : ℕ) (f g : X → X) (old new whole : X) → i < n → new ≡ f old → in_turn (n - i) f g old ≡ whole → in_turn (n - (i + 1)) g f new ≡ whole
turn_next n i f g old new whole low is before = rw is (sym (turn_more n i f g old low) ∙ before)

-- a greatest number so far
pub greatest_more : (f : ℕ → ℕ) (p : ℕ → Bool) (i n old new whole : ℕ) → i < n → new ≡ (if p i then max old (f i) else old) →
    max old (greatest (map f (filter p (range_with_len i (n - i))))) ≡ whole → max new (greatest (map f (filter p (range_with_len (i + 1) (n - (i + 1)))))) ≡ whole
greatest_more f p i n old new whole low is before =
    rw is (cases (p i) (greatest (map f (filter p (range_with_len (i + 1) (n - (i + 1)))))) (λ b. greatest (map f (cond b (i ∷ filter p (range_with_len (i + 1) (n - (i + 1)))) (filter p (range_with_len (i + 1) (n - (i + 1))))))) refl refl
    ∙ ap (λ (xs : List ℕ). max old (greatest (map f (filter p xs)))) (sym (range_more i n low)) ∙ before)
  where
    cases : (b : Bool) (rest : ℕ) (all : Bool → ℕ) → all true ≡ max (f i) rest → all false ≡ rest → max (if b then max old (f i) else old) rest ≡ max old (all b)
    cases true rest all t e = rw t (omega arith)
    cases false rest all t e = rw e refl

-- a further pair
pub pair_more : (f : ℕ × ℕ → ℕ) (a b n : ℕ) (old new whole : ℕ × ℕ) → b < n → new ≡ (if nat_lt (f (a, b)) (f old) then (a, b) else old) →
    least_from f old (map (λ c. (a, c)) (range_with_len b (n - b))) ≡ whole → least_from f new (map (λ c. (a, c)) (range_with_len (b + 1) (n - (b + 1)))) ≡ whole
pair_more f a b n old new whole low is before =
    rw is (ap (λ (xs : List ℕ). least_from f old (map (λ c. (a, c)) xs)) (sym (range_more b n low)) ∙ before)

pub least_append : {X : Type 0} (f : X → ℕ) (x : X) (xs ys : List X) → least_from f x (xs ++ ys) ≡ least_from f (least_from f x xs) ys
least_append f x [] ys = refl
least_append f x (y ∷ xs) ys = least_append f (if nat_lt (f y) (f x) then y else x) xs ys

-- all pairs of a further entry
pub pairs_more : {X : Type 0} (f : X → ℕ) (with : ℕ → List X) (a n : ℕ) (old new whole : X) → a < n → new ≡ least_from f old (with a) →
    least_from f old (flat_map with (range_with_len a (n - a))) ≡ whole → least_from f new (flat_map with (range_with_len (a + 1) (n - (a + 1)))) ≡ whole
pairs_more f with a n old new whole low is before =
    rw is (sym (least_append f old (with a) (flat_map with (range_with_len (a + 1) (n - (a + 1))))) ∙ ap (λ (xs : List ℕ). least_from f old (flat_map with xs)) (sym (range_more a n low)) ∙ before)

-- a list may begin with the one that was found before
pub least_again : {X : Type 0} (f : X → ℕ) (x : X) (xs : List X) → least_from f x (x ∷ xs) ≡ least_from f x xs
least_again {X} f x xs = cases (nat_lt (f x) (f x))
  where
    cases : (b : Bool) → least_from f (if b then x else x) xs ≡ least_from f x xs
    cases true = refl
    cases false = refl

-- the best of all pairs
pub all_pairs : (f : ℕ × ℕ → ℕ) (n : ℕ) → 2 ≤ n → least_from f (0, 1) (pairs n) ≡ or_pair (first_least f (pairs n))
all_pairs f zero two = absurd (omega arith)
all_pairs f (suc zero) two = absurd (omega arith)
all_pairs f (suc (suc n)) two =
    let e : suc (suc n) - 1 ≡ suc n = omega arith in
    rw e (least_again f (0, 1) (map (λ b. (0, b)) (range_with_len 2 n) ++ flat_map (pairs_with (suc (suc n))) (range_with_len 1 (suc n))))

-- the cost of the better one
pub cost_kept : (f : ℕ × ℕ → ℕ) (x y new : ℕ × ℕ) (c d e : ℕ) → c ≡ f y → d ≡ f x → new ≡ (if nat_lt c d then y else x) → e ≡ (if nat_lt c d then c else d) → e ≡ f new
cost_kept f x y new c d e is_c is_d is_new is_e = rw (is_new, is_e) (cases (nat_lt c d))
  where
    cases : (b : Bool) → (if b then c else d) ≡ f (if b then y else x)
    cases true = is_c
    cases false = is_d

pub pair_kept : (P : ℕ × ℕ → Type 0) (x y new : ℕ × ℕ) (b : Bool) → new ≡ (if b then y else x) → P y → P x → P new
pair_kept P x y new true is p q = rw is p
pair_kept P x y new false is p q = rw is q

pub drop_next : {E : Type 0} (es : List E) (i : ℕ) (z : E) → i < length es → drop i es ≡ get_or es i z ∷ drop (i + 1) es
drop_next es i z low = rw add-one (drop-cons es i z low)

-- a further entry of a half
pub half_more : {E : Type 0} (set : E → ℕ → E) (on : Side) (ds : List ℕ) (sides : List Side) (z : Side) (i : ℕ) (e : E) (es all old new whole : List E) →
    i < length ds → i < length sides → all ≡ e ∷ es →
    new ≡ (if is_on on (get_or sides i z) then old ++ set e (get_or ds i 0) ∷ [] else old) → old ++ half_entries set on (drop i ds) (drop i sides) all ≡ whole →
    new ++ half_entries set on (drop (i + 1) ds) (drop (i + 1) sides) es ≡ whole
half_more {E} set on ds sides z i e es all old new whole low low' next is before =
    rw is (cases (is_on on (get_or sides i z)) (half_entries set on (drop (i + 1) ds) (drop (i + 1) sides) es)
    ∙ (let b = rw (next, drop_next ds i 0 low, drop_next sides i z low') at before in b))
  where
    cases : (b : Bool) (rest : List E) → (if b then old ++ set e (get_or ds i 0) ∷ [] else old) ++ rest ≡ old ++ (if b then set e (get_or ds i 0) ∷ rest else rest)
    cases true rest = append_assoc old (set e (get_or ds i 0) ∷ []) rest
    cases false rest = refl

-- counts of distances, one after another
pub counted_more : (i n a b c : ℕ) → HasCounted (i * n) a b → HasCounted n b c → HasCounted ((i + 1) * n) a c
counted_more i n a b c before after is_point =
    let e : (i + 1) * n ≡ i * n + n = grind arith in
    let one = before (omega (arith, e)) in
    let two = after (omega (arith, e, one)) in
    omega (arith, e, one, two)

-- a further place that passes, or not
pub filter_more : (p : ℕ → Bool) (i n : ℕ) (old new whole : List ℕ) → i < n → new ≡ (if p i then old ++ i ∷ [] else old) →
    old ++ filter p (range_with_len i (n - i)) ≡ whole → new ++ filter p (range_with_len (i + 1) (n - (i + 1))) ≡ whole
filter_more p i n old new whole low is before =
    rw is (cases (p i) (filter p (range_with_len (i + 1) (n - (i + 1)))) ∙ ap (λ (xs : List ℕ). old ++ filter p xs) (sym (range_more i n low)) ∙ before)
  where
    cases : (b : Bool) (rest : List ℕ) → (if b then old ++ i ∷ [] else old) ++ rest ≡ old ++ cond b (i ∷ rest) rest
    cases true rest = append_assoc old (i ∷ []) rest
    cases false rest = refl
