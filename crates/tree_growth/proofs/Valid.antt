-- The rules keep what a split has to keep.
use Rattle.std.proofs.Common.{◌≡◌, ℕ, zero, suc, ◌+◌, ◌-◌, ◌<◌, ◌≤◌, Bool, true, false, cond, List, [], ◌∷◌, ◌++◌, refl, sym, ap, ◌∙◌, arith, length, map, get_or, subst, inl, inr}
use Rattle.std.specs.Prelude.{filter, if◌then◌else◌}
use Rattle.std.specs.List.{AllByRecursion, range_with_len, flat_map}
use Rattle.std.proofs.lemmas.List.FromFn.{fill_by_all}
use Rattle.metric_laws.specs.Space.{Space, IsSpace}
use Rattle.metric_laws.specs.Pruning.{capped}
use Rattle.metric_laws.specs.Lists.{IsIn}
use Rattle.metric_laws.proofs.Published.{in-filter, length_map}
use Rattle.tree_shape.specs.Fill.{least_for, root_least}
use Rattle.tree_growth.specs.Dealing.{IsPair, Ball, is_on, Table, size, apart, table_of, first_least, least_from, partitioned, promoted, split_of, point_at, side_at, members, reach, greatest, group_radius, pairs, pairs_with, pair_cost, or_pair}
use Rattle.tree_growth.specs.Insertion.{taken, left, inserted, rules, Grown, One, Two, new_root, placed}
use Rattle.tree_shape.specs.Plain.{Object, Plain, Tall}
use Rattle.tree_shape.specs.Sound.{ObjectFits, IsSoundPlain, IsSoundTall}
use Rattle.tree_growth.proofs.Kept.{inserted_sound, Reaches, IsValidSplit, IsValid, IsSoundGrown}
use Rattle.tree_growth.specs.declared.rules.Side.{Side}
use Rattle.tree_growth.specs.declared.rules.Side.TheVariants.{First, Second, Open}
use Rattle.tree_growth.proofs.Fair.{tally_sides, IsFair, fair, in_range}
use Rattle.tree_growth.proofs.Added.{least_in, chosen_low}
use Rattle.tree_shape.proofs.Published.{three_at_least}
use Rattle.tree_growth.proofs.TableRows.{row_of_table}

-- shares
pub taken_tally : {X : Type 0} (sides : List Side) (xs : List X) → length sides ≡ length xs → length (taken (map (is_on First) sides) xs) ≡ tally_sides First sides
taken_tally [] xs long = refl
taken_tally (s ∷ sides) [] long = absurd (omega arith)
taken_tally (First ∷ sides) (x ∷ xs) long = let ih = taken_tally sides xs (omega arith) in omega arith
taken_tally (Second ∷ sides) (x ∷ xs) long = taken_tally sides xs (omega arith)
taken_tally (Open ∷ sides) (x ∷ xs) long = taken_tally sides xs (omega arith)

pub left_tally : {X : Type 0} (sides : List Side) (xs : List X) → length sides ≡ length xs → tally_sides Open sides ≡ 0 → length (left (map (is_on First) sides) xs) ≡ tally_sides Second sides
left_tally [] [] long none = refl
left_tally [] (x ∷ xs) long none = absurd (omega arith)
left_tally (s ∷ sides) [] long none = absurd (omega arith)
left_tally (First ∷ sides) (x ∷ xs) long none = left_tally sides xs (omega arith) none
left_tally (Second ∷ sides) (x ∷ xs) long none = let ih = left_tally sides xs (omega arith) none in omega arith
left_tally (Open ∷ sides) (x ∷ xs) long none = absurd (omega arith)

-- what is taken, by places
pub taken_filter : {X : Type 0} (p : ℕ → Bool) (q : ℕ → X) (xs : List ℕ) → taken (map p xs) (map q xs) ≡ map q (filter p xs)
taken_filter p q [] = refl
taken_filter {X} p q (x ∷ xs) = cases (p x) (taken_filter p q xs)
  where
    cases : (b : Bool) → taken (map p xs) (map q xs) ≡ map q (filter p xs) → (if b then q x ∷ taken (map p xs) (map q xs) else taken (map p xs) (map q xs)) ≡ map q (cond b (x ∷ filter p xs) (filter p xs))
    cases true ih = ap (λ r. q x ∷ r) ih
    cases false ih = ih

-- what is left are those on the second side
pub left_second : {X : Type 0} (sides : List Side) (xs : List X) → length sides ≡ length xs → tally_sides Open sides ≡ 0 → left (map (is_on First) sides) xs ≡ taken (map (is_on Second) sides) xs
left_second [] [] long none = refl
left_second [] (x ∷ xs) long none = absurd (omega arith)
left_second (s ∷ sides) [] long none = absurd (omega arith)
left_second (First ∷ sides) (x ∷ xs) long none = left_second sides xs (omega arith) none
left_second (Second ∷ sides) (x ∷ xs) long none = ap (λ r. x ∷ r) (left_second sides xs (omega arith) none)
left_second (Open ∷ sides) (x ∷ xs) long none = absurd (omega arith)

pub map_places : {X Y : Type 0} (f : X → Y) (g : ℕ → Y) (xs : List X) (z : X) → ((k : ℕ) → k < length xs → f (get_or xs k z) ≡ g k) → map f xs ≡ map g (range_with_len 0 (length xs))
map_places f g xs z same =
    fill_by_all g (map f xs) (length xs) (f z) (length_map f xs) (λ k low. at xs k low ∙ same k low)
  where
    at : (ys : List _) (k : ℕ) → k < length ys → get_or (map f ys) k (f z) ≡ f (get_or ys k z)
    at [] k low = absurd (omega arith)
    at (y ∷ ys) zero low = refl
    at (y ∷ ys) (suc k) low = at ys k (omega arith)

-- no member is above the greatest
pub below_greatest : (f : ℕ → ℕ) (xs : List ℕ) (top : ℕ) → greatest (map f xs) ≤ top → AllByRecursion (λ i. f i ≤ top) xs
below_greatest f [] top high = tt
below_greatest f (x ∷ xs) top high = (omega arith, below_greatest f xs top (omega arith))

pub all_to_map : {X Y : Type 0} (P : Y → Type 0) (f : X → Y) (xs : List X) → AllByRecursion (λ x. P (f x)) xs → AllByRecursion P (map f xs)
all_to_map P f [] all = tt
all_to_map P f (x ∷ xs) all = (all.0, all_to_map P f xs all.1)

pub all_inside : {X : Type 0} (P Q : X → Type 0) (xs : List X) → ((x : X) → IsIn x xs → P x → Q x) → AllByRecursion P xs → AllByRecursion Q xs
all_inside P Q [] h all = tt
all_inside P Q (x ∷ xs) h all = (h x (inl refl) all.0, all_inside P Q xs (λ y k. h y (inr k)) all.1)

pub get_map : {X Y : Type 0} (f : X → Y) (xs : List X) (i : ℕ) (z : X) (w : Y) → i < length xs → get_or (map f xs) i w ≡ f (get_or xs i z)
get_map f [] i z w low = absurd (omega arith)
get_map f (x ∷ xs) zero z w low = refl
get_map f (x ∷ xs) (suc i) z w low = get_map f xs i z w (omega arith)

abbrev pub at_place : List Ball → ℕ → Ball
at_place bs i = get_or bs i ([], 0)

-- how far an entry reaches, by the table and by the balls
pub reach_is : (s : Space) (bs : List Ball) (p i : ℕ) → p < length bs → i < length bs → reach (table_of s bs) p i ≡ capped (s.dist (at_place bs i).0 (point_at bs p)) (at_place bs i).1
reach_is s bs p i low low' =
    let d : apart (table_of s bs) p i ≡ s.dist (at_place bs i).0 (point_at bs p) =
    ap (λ (r : List ℕ). get_or r i 0) (row_of_table s bs p low) ∙ get_map (λ (q : Ball). s.dist q.0 (point_at bs p)) bs i ([], 0) 0 low' in
    let r : get_or (map (λ (b : Ball). b.1) bs) i 0 ≡ (at_place bs i).1 = get_map (λ (b : Ball). b.1) bs i ([], 0) 0 low' in
    rw (d, r) refl

-- a group's radius reaches over its entries
pub group_reaches : (s : Space) (bs : List Ball) (p : ℕ) (on : Side) (sides : List Side) → p < length bs → length sides ≡ length bs →
    Reaches s (point_at bs p, group_radius (table_of s bs) p on sides) (taken (map (is_on on) sides) bs)
group_reaches s bs p on sides low long =
    subst (Reaches s (point_at bs p, group_radius (table_of s bs) p on sides)) (sym parts)
    (all_to_map (λ (b : Ball). capped (s.dist b.0 (point_at bs p)) b.1 ≤ group_radius (table_of s bs) p on sides) (at_place bs) (members on sides)
    (all_inside (λ i. reach (table_of s bs) p i ≤ group_radius (table_of s bs) p on sides) (λ i. capped (s.dist (at_place bs i).0 (point_at bs p)) (at_place bs i).1 ≤ group_radius (table_of s bs) p on sides) (members on sides)
    (λ i k h. let inside = in-filter (λ i. is_on on (side_at sides i)) (range_with_len 0 (length sides)) i k in
    let low' = in_range i 0 (length sides) inside.0 in
    subst (λ (r : ℕ). r ≤ group_radius (table_of s bs) p on sides) (reach_is s bs p i low (omega arith)) h)
    (below_greatest (reach (table_of s bs) p) (members on sides) (group_radius (table_of s bs) p on sides) (omega arith))))
  where
    ident : Ball → Ball
    ident b = b

    same_list : (xs : List Ball) → xs ≡ map (λ b. b) xs
    same_list [] = refl
    same_list (x ∷ xs) = ap (λ r. x ∷ r) (same_list xs)

    parts : taken (map (is_on on) sides) bs ≡ map (at_place bs) (members on sides)
    parts =
        ap (λ (ms : List Bool). taken ms bs) (map_places (is_on on) (λ i. is_on on (side_at sides i)) sides Open (λ k low. refl))
        ∙ ap (λ (xs : List Ball). taken (map (λ i. is_on on (side_at sides i)) (range_with_len 0 (length sides))) xs)
        (same_list bs ∙ map_places (λ b. b) (at_place bs) bs ([], 0) (λ k low. refl) ∙ ap (λ (n : ℕ). map (at_place bs) (range_with_len 0 n)) (sym long))
        ∙ taken_filter (λ i. is_on on (side_at sides i)) (at_place bs) (range_with_len 0 (length sides))

pub point_inside : (bs : List Ball) (i : ℕ) → i < length bs → IsIn (point_at bs i) (map (λ b. b.0) bs)
point_inside [] i low = absurd (omega arith)
point_inside (b ∷ bs) zero low = inl refl
point_inside (b ∷ bs) (suc i) low = inr (point_inside bs i (omega arith))

-- the split of the rules is valid, once the promoted pair is one of places
pub split_valid : (s : Space) (promote split : ℕ) (bs : List Ball) → 1 ≤ least_for s.dimension → least_for s.dimension + least_for s.dimension ≤ length bs →
    IsPair (length bs) (promoted (table_of s bs) promote split (least_for s.dimension)) → IsValidSplit s bs (split_of s promote split (least_for s.dimension) bs)
split_valid s promote split bs some room pair =
    let n = length_map (λ (b : Ball). b.1) bs in
    let l = pair.0 in
    let h = pair.1 in
    let p : ℕ × ℕ = promoted (table_of s bs) promote split (least_for s.dimension) in
    let sides : List Side = partitioned (table_of s bs) p.0 p.1 split (least_for s.dimension) in
    let f : IsFair (size (table_of s bs)) p.0 p.1 (least_for s.dimension) sides = fair (table_of s bs) p.0 p.1 split (least_for s.dimension) (omega arith) (omega arith) (λ same. absurd (omega arith)) some (omega arith) in
    let long : length sides ≡ length bs = f.holds.long ∙ n in
    let u = f.first_enough in
    let v = f.second_enough in
    record {
      first_enough = (let t = taken_tally sides bs long in omega arith);
      second_enough = (let t = left_tally sides bs long f.none_open in omega arith);
      first_in = point_inside bs p.0 (omega arith);
      second_in = point_inside bs p.1 (omega arith);
      first_reaches = group_reaches s bs p.0 First sides (omega arith) long;
      second_reaches = subst (Reaches s (point_at bs p.1, group_radius (table_of s bs) p.1 Second sides)) (sym (left_second sides bs long f.none_open)) (group_reaches s bs p.1 Second sides (omega arith) long);
    }

pub in_range_low : (k i n : ℕ) → IsIn k (range_with_len i n) → i ≤ k
in_range_low k i zero w = absurd w
in_range_low k i (suc n) w = elim w [ inl e ↦ omega arith | inr v ↦ (let ih = in_range_low k (i + 1) n v in omega arith) ]

pub pair_in_map : (a n i : ℕ) (xs : List ℕ) (p : ℕ × ℕ) → ((k : ℕ) → IsIn k xs → (a < k) × (k < n)) → IsIn p (map (λ b. (a, b)) xs) → IsPair n p
pair_in_map a n i [] p h w = absurd w
pair_in_map a n i (x ∷ xs) p h w = elim w [ inl e ↦ subst (IsPair n) (sym e) (h x (inl refl)) | inr v ↦ pair_in_map a n i xs p (λ k u. h k (inr u)) v ]

pub pair_in : (n : ℕ) (as_places : List ℕ) (p : ℕ × ℕ) → IsIn p (flat_map (pairs_with n) as_places) → IsPair n p
pair_in n [] p w = absurd w
pair_in n (a ∷ rest) p w = split_in (pairs_with n a) (flat_map (pairs_with n) rest) w (λ u. pair_in_map a n 0 (range_with_len (a + 1) (n - (a + 1))) p (λ k v. let l = in_range_low k (a + 1) (n - (a + 1)) v in let h = in_range k (a + 1) (n - (a + 1)) v in (omega arith, omega arith)) u) (λ u. pair_in n rest p u)
  where
    split_in : (xs ys : List (ℕ × ℕ)) → IsIn p (xs ++ ys) → (IsIn p xs → IsPair n p) → (IsIn p ys → IsPair n p) → IsPair n p
    split_in [] ys w f g = g w
    split_in (x ∷ xs) ys w f g = elim w [ inl e ↦ f (inl e) | inr v ↦ split_in xs ys v (λ u. f (inr u)) g ]

-- the promoted pair is a pair of places
pub promoted_pair : (t : Table) (promote split least : ℕ) → 2 ≤ size t → IsPair (size t) (promoted t promote split least)
promoted_pair t promote split least two = cases (pairs (size t)) (λ p k. pair_in (size t) (range_with_len 0 (size t)) p k)
  where
    cases : (ps : List (ℕ × ℕ)) → ((p : ℕ × ℕ) → IsIn p ps → IsPair (size t) p) → IsPair (size t) (or_pair (first_least (pair_cost t promote split least) ps))
    cases [] h = (omega arith, omega arith)
    cases (p ∷ ps) h = h (least_from (pair_cost t promote split least) p ps) (least_in (pair_cost t promote split least) p ps)

-- the rules are valid
pub rules_valid : (s : Space) (promote split : ℕ) → 1 ≤ least_for s.dimension → IsValid s (rules s promote split)
rules_valid s promote split some = record {
  most_is = refl;
  dist_is = refl;
  chooses = λ bs p k. chosen_low s bs p k;
  splits = λ bs long. split_valid s promote split bs some (omega arith)
      (let n = length_map (λ (b : Ball). b.1) bs in subst (λ (k : ℕ). IsPair k (promoted (table_of s bs) promote split (least_for s.dimension))) n (promoted_pair (table_of s bs) promote split (least_for s.dimension) (omega arith)));
}

-- so an insertion by the rules keeps a sound tree sound
pub inserted_by_rules : (s : Space) → IsSpace s → 1 ≤ least_for s.dimension → (promote split : ℕ) (o : Object) → ObjectFits s o → (h least : ℕ) (t : Plain h) → (0 < h → 1 ≤ least) → IsSoundPlain s h least t →
    IsSoundGrown s h least (inserted (rules s promote split) o h t)
inserted_by_rules s space some promote split o is_point h least t filled sound = inserted_sound s space some (rules s promote split) (rules_valid s promote split some) o is_point h least t filled sound

-- a new root has two entries
pub new_root_sound : (s : Space) → s.dimension ≤ 64 → (h : ℕ) (g : Grown (Plain h)) → IsSoundGrown s h (root_least h) g → IsSoundTall s (new_root h g)
new_root_sound s few h (One t) sound = sound
new_root_sound s few h (Two c d) sound =
    let three = three_at_least s.dimension few in (record { enough = omega arith; at_most = omega arith }, (sound.0, (sound.1, tt)))

pub insertion_keeps_sound : (s : Space) → IsSpace s → (promote split : ℕ) (o : Object) → ObjectFits s o → (t : Tall) → IsSoundTall s t → IsSoundTall s (placed s promote split o t)
insertion_keeps_sound s space promote split o is_point t sound =
    new_root_sound s space.few_coordinates t.height (inserted (rules s promote split) o t.height t.tree)
    (inserted_by_rules s space (let three = three_at_least s.dimension space.few_coordinates in omega arith) promote split o is_point t.height (root_least t.height) t.tree (some t.height) sound)
  where
    some : (h : ℕ) → 0 < h → 1 ≤ root_least h
    some zero high = absurd (omega arith)
    some (suc h) high = omega arith
