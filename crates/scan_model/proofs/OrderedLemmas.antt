-- Values in order are determined by how often each occurs.
use Rattle.std.proofs.Common.{◌≡◌, ℕ, suc, ◌+◌, ◌<◌, List, [], ◌∷◌, true, false, cond, Ordering, Less, Equal, Greater, get_or, length, take, ◌++◌, refl, sym, ◌∙◌, ap, subst, arith, add_assoc, add-zero, zero-add, inl, inr}
use Rattle.std.specs.Prelude.{fold, if◌then◌else◌}
use Rattle.std.specs.Cmp.{IsTotalOrder}
use Rattle.std.specs.Ordering.{is_gt, is_eq, is_lt, ordering_reverse}
use Rattle.std.specs.List.Sorted.{IsSorted, IsPermutation, IsSplitAround}
use Rattle.std.proofs.lemmas.Bool.{cases_Bool}
use Rattle.std.proofs.lemmas.Cmp.{upto, tied_itself, tied_back, alike_right}
use Rattle.std.proofs.lemmas.List.{take_at}
use Rattle.std.proofs.lemmas.List.Sorted.{sum_by-IsPermutation}
use Rattle.scan_model.specs.Ordered.{put, ordered}

-- 1 for a value that is equal to x
abbrev weight : {X : Type 0} → (X → X → Ordering) → X → X → ℕ
weight cmp x y = if is_eq (cmp x y) then 1 else 0

-- how often x occurs
abbrev count : {X : Type 0} → (X → X → Ordering) → X → List X → ℕ
count cmp x [] = 0
count cmp x (y ∷ ys) = weight cmp x y + count cmp x ys

-- no value is below x
abbrev Above : {X : Type 0} → (X → X → Ordering) → X → List X → Type 0
Above cmp x [] = Unit {0}
Above cmp x (y ∷ ys) = (is_gt (cmp x y) ≡ false) × Above cmp x ys

-- no value is below an earlier one
abbrev pub Rises : {X : Type 0} → (X → X → Ordering) → List X → Type 0
Rises cmp [] = Unit {0}
Rises cmp (x ∷ xs) = Above cmp x xs × Rises cmp xs

fold_count : {X : Type 0} (cmp : X → X → Ordering) (x : X) (n : ℕ) (l : List X) → fold (λ a y. a + weight cmp x y) n l ≡ n + count cmp x l
fold_count cmp x n [] = sym (add-zero n)
fold_count cmp x n (y ∷ ys) = fold_count cmp x (n + weight cmp x y) ys ∙ add_assoc n (weight cmp x y) (count cmp x ys)

count_permutation : {X : Type 0} (cmp : X → X → Ordering) (x : X) (xs ys : List X) → IsPermutation xs ys → count cmp x ys ≡ count cmp x xs
count_permutation cmp x xs ys moved =
    sym (fold_count cmp x 0 ys ∙ zero-add (count cmp x ys)) ∙ sum_by-IsPermutation (weight cmp x) xs ys moved ∙ fold_count cmp x 0 xs ∙ zero-add (count cmp x xs)

count_put : {X : Type 0} (cmp : X → X → Ordering) (x y : X) (l : List X) → count cmp x (put cmp y l) ≡ weight cmp x y + count cmp x l
count_put cmp x y [] = refl
count_put cmp x y (z ∷ zs) =
    let step = count_put cmp x y zs in
    elim (is_gt (cmp y z)) as (λ b. count cmp x (cond b (z ∷ put cmp y zs) (y ∷ z ∷ zs)) ≡ weight cmp x y + (weight cmp x z + count cmp x zs)) [
      | true ↦ omega (arith, step)
      | false ↦ refl
    ]

count_ordered : {X : Type 0} (cmp : X → X → Ordering) (x : X) (l : List X) → count cmp x (ordered cmp l) ≡ count cmp x l
count_ordered cmp x [] = refl
count_ordered cmp x (y ∷ ys) = count_put cmp x y (ordered cmp ys) ∙ ap (λ (n : ℕ). weight cmp x y + n) (count_ordered cmp x ys)

-- what is not above the first of values in order is below none of them
above_lower : {X : Type 0} {cmp : X → X → Ordering} → IsTotalOrder cmp → (x y : X) (ys : List X) → is_gt (cmp x y) ≡ false → Above cmp y ys → Above cmp x ys
above_lower order x y [] le above = tt
above_lower order x y (z ∷ zs) le above = (upto order x y z le above.0, above_lower order x y zs le above.1)

above_put : {X : Type 0} (cmp : X → X → Ordering) (x y : X) (l : List X) → is_gt (cmp x y) ≡ false → Above cmp x l → Above cmp x (put cmp y l)
above_put cmp x y [] le above = (le, tt)
above_put cmp x y (z ∷ zs) le above =
    let step = above_put cmp x y zs le above.1 in
    elim (is_gt (cmp y z)) as (λ b. Above cmp x (cond b (z ∷ put cmp y zs) (y ∷ z ∷ zs))) [
      | true ↦ (above.0, step)
      | false ↦ (le, above)
    ]

-- two orderings that are each other's reverse
not_both : (o r : Ordering) → o ≡ ordering_reverse r → is_gt r ≡ true → is_gt o ≡ false
not_both o Less is gt = cc
not_both o Equal is gt = cc
not_both o Greater is gt = ap is_gt is

turned : {X : Type 0} {cmp : X → X → Ordering} → IsTotalOrder cmp → (x y : X) → is_gt (cmp y x) ≡ true → is_gt (cmp x y) ≡ false
turned {cmp = cmp} order x y gt = not_both (cmp x y) (cmp y x) (order.antisymm x y) gt

rises_put : {X : Type 0} {cmp : X → X → Ordering} → IsTotalOrder cmp → (y : X) (l : List X) → Rises cmp l → Rises cmp (put cmp y l)
rises_put order y [] rises = (tt, tt)
rises_put {cmp = cmp} order y (z ∷ zs) rises = elim (cases_Bool (is_gt (cmp y z))) [
  | inl gt ↦ rw gt (above_put cmp z y zs (turned order z y gt) rises.0, rises_put order y zs rises.1)
  | inr le ↦ rw le ((le, above_lower order y z zs le rises.0), rises)
]

rises_ordered : {X : Type 0} {cmp : X → X → Ordering} → IsTotalOrder cmp → (l : List X) → Rises cmp (ordered cmp l)
rises_ordered order [] = tt
rises_ordered order (x ∷ xs) = rises_put order x _ (rises_ordered order xs)

not_after : (o r : Ordering) → o ≡ ordering_reverse r → is_lt r ≡ false → is_gt o ≡ false
not_after o Less is lt = cc
not_after o Equal is lt = ap is_gt is
not_after o Greater is lt = ap is_gt is

rises_from_sorted : {X : Type 0} {cmp : X → X → Ordering} → IsTotalOrder cmp → (l : List X) → IsSorted cmp l → Rises cmp l
rises_from_sorted order [] sorted = tt
rises_from_sorted order (x ∷ []) sorted = (tt, tt)
rises_from_sorted {cmp = cmp} order (x ∷ y ∷ ys) sorted =
    let first : is_gt (cmp x y) ≡ false = not_after (cmp x y) (cmp y x) (order.antisymm x y) (sorted 0 x (omega arith) (omega arith)) in
    let rest = rises_from_sorted order (y ∷ ys) (λ k d low high. let P : ℕ → Type 0 = λ m. is_lt (cmp (get_or (x ∷ y ∷ ys) m d) (get_or (y ∷ ys) k d)) ≡ false in let next : suc k + 1 ≡ suc (k + 1) = omega arith in subst P next (sorted (suc k) d (omega arith) (omega arith))) in
    ((first, above_lower order x y ys first rest.0), rest)

is_equal : (o : Ordering) → is_eq o ≡ true → o ≡ Equal
is_equal Less is = cc
is_equal Equal is = refl
is_equal Greater is = cc

neither_above : (o r : Ordering) → o ≡ ordering_reverse r → is_gt o ≡ false → is_gt r ≡ false → o ≡ Equal
neither_above o Less is le ge = cc
neither_above o Equal is le ge = is
neither_above o Greater is le ge = cc

weight_itself : {X : Type 0} {cmp : X → X → Ordering} → IsTotalOrder cmp → (x : X) → weight cmp x x ≡ 1
weight_itself order x = rw (tied_itself order x) refl

-- a value that occurs among values that are not below y is not below y
occurs_above : {X : Type 0} {cmp : X → X → Ordering} → IsTotalOrder cmp → (x y : X) (l : List X) → Above cmp y l → 0 < count cmp x l → is_gt (cmp y x) ≡ false
occurs_above order x y [] above occurs = absurd (omega arith)
occurs_above {cmp = cmp} order x y (z ∷ zs) above occurs = elim (cases_Bool (is_eq (cmp x z))) [
  | inl equal ↦ ap is_gt (alike_right order x z y (is_equal _ equal)) ∙ above.0
  | inr other ↦
      let none : weight cmp x z ≡ 0 = rw other refl in
      occurs_above order x y zs above.1 (omega arith)
]

-- the first of values in order is not above one that occurs
least : {X : Type 0} {cmp : X → X → Ordering} → IsTotalOrder cmp → (x y : X) (l : List X) → Above cmp y l → 0 < weight cmp x y + count cmp x l → is_gt (cmp y x) ≡ false
least {cmp = cmp} order x y l above occurs = elim (cases_Bool (is_eq (cmp x y))) [
  | inl equal ↦ ap is_gt (tied_back order x y (is_equal _ equal))
  | inr other ↦
      let none : weight cmp x y ≡ 0 = rw other refl in
      occurs_above order x y l above (omega arith)
]

same_in_order : {X : Type 0} {cmp : X → X → Ordering} → IsTotalOrder cmp → ((x y : X) → cmp x y ≡ Equal → x ≡ y) →
    (xs ys : List X) → Rises cmp xs → Rises cmp ys → ((x : X) → count cmp x xs ≡ count cmp x ys) → xs ≡ ys
same_in_order order same [] [] up_x up_y counts = refl
same_in_order order same [] (b ∷ bs) up_x up_y counts = absurd (omega (arith, counts b, weight_itself order b))
same_in_order order same (a ∷ more) [] up_x up_y counts = absurd (omega (arith, counts a, weight_itself order a))
same_in_order {cmp = cmp} order same (a ∷ more) (b ∷ bs) up_x up_y counts =
    let le_ba : is_gt (cmp b a) ≡ false = least order a b bs up_y.0 (omega (arith, counts a, weight_itself order a)) in
    let le_ab : is_gt (cmp a b) ≡ false = least order b a more up_x.0 (omega (arith, counts b, weight_itself order b)) in
    let heads : a ≡ b = same a b (neither_above (cmp a b) (cmp b a) (order.antisymm a b) le_ab le_ba) in
    let tails : more ≡ bs = same_in_order order same more bs up_x.1 up_y.1 (λ x. let even : weight cmp x a ≡ weight cmp x b = ap (weight cmp x) heads in omega (arith, counts x)) in
    λ i. heads i ∷ tails i

-- a list that is sorted is the other in order
pub sorted_is_ordered : {X : Type 0} {cmp : X → X → Ordering} → IsTotalOrder cmp → ((x y : X) → cmp x y ≡ Equal → x ≡ y) →
    (xs ys : List X) → IsPermutation xs ys → IsSorted cmp ys → ys ≡ ordered cmp xs
sorted_is_ordered {cmp = cmp} order same xs ys moved sorted =
    same_in_order order same ys (ordered cmp xs) (rises_from_sorted order ys sorted) (rises_ordered order xs)
    (λ x. count_permutation cmp x xs ys moved ∙ sym (count_ordered cmp x xs))

-- a list whose front is split off

-- none of these values is above one of those
abbrev AllAbove : {X : Type 0} → (X → X → Ordering) → List X → List X → Type 0
AllAbove cmp [] ys = Unit {0}
AllAbove cmp (x ∷ xs) ys = Above cmp x ys × AllAbove cmp xs ys

above_ordered : {X : Type 0} (cmp : X → X → Ordering) (x : X) (l : List X) → Above cmp x l → Above cmp x (ordered cmp l)
above_ordered cmp x [] above = tt
above_ordered cmp x (y ∷ ys) above = above_put cmp x y (ordered cmp ys) above.0 (above_ordered cmp x ys above.1)

above_append : {X : Type 0} (cmp : X → X → Ordering) (x : X) (l m : List X) → Above cmp x l → Above cmp x m → Above cmp x (l ++ m)
above_append cmp x [] m one two = two
above_append cmp x (y ∷ ys) m one two = (one.0, above_append cmp x ys m one.1 two)

all_above_put : {X : Type 0} (cmp : X → X → Ordering) (y : X) (l m : List X) → Above cmp y m → AllAbove cmp l m → AllAbove cmp (put cmp y l) m
all_above_put cmp y [] m one all = (one, tt)
all_above_put cmp y (z ∷ zs) m one all =
    let step = all_above_put cmp y zs m one all.1 in
    elim (is_gt (cmp y z)) as (λ b. AllAbove cmp (cond b (z ∷ put cmp y zs) (y ∷ z ∷ zs)) m) [
      | true ↦ (all.0, step)
      | false ↦ (one, all)
    ]

all_above_ordered : {X : Type 0} (cmp : X → X → Ordering) (l m : List X) → AllAbove cmp l m → AllAbove cmp (ordered cmp l) m
all_above_ordered cmp [] m all = tt
all_above_ordered cmp (x ∷ xs) m all = all_above_put cmp x (ordered cmp xs) m all.0 (all_above_ordered cmp xs m all.1)

all_above_right : {X : Type 0} (cmp : X → X → Ordering) (l m : List X) → AllAbove cmp l m → AllAbove cmp l (ordered cmp m)
all_above_right cmp [] m all = tt
all_above_right cmp (x ∷ xs) m all = (above_ordered cmp x m all.0, all_above_right cmp xs m all.1)

rises_append : {X : Type 0} (cmp : X → X → Ordering) (l m : List X) → Rises cmp l → Rises cmp m → AllAbove cmp l m → Rises cmp (l ++ m)
rises_append cmp [] m one two all = two
rises_append cmp (x ∷ xs) m one two all = (above_append cmp x xs m one.0 all.0, rises_append cmp xs m one.1 two all.1)

count_append : {X : Type 0} (cmp : X → X → Ordering) (x : X) (l m : List X) → count cmp x (l ++ m) ≡ count cmp x l + count cmp x m
count_append cmp x [] m = sym (zero-add (count cmp x m))
count_append cmp x (y ∷ ys) m = ap (λ (n : ℕ). weight cmp x y + n) (count_append cmp x ys m) ∙ sym (add_assoc (weight cmp x y) (count cmp x ys) (count cmp x m))

length_put : {X : Type 0} (cmp : X → X → Ordering) (y : X) (l : List X) → length (put cmp y l) ≡ suc (length l)
length_put cmp y [] = refl
length_put cmp y (z ∷ zs) =
    let step = length_put cmp y zs in
    elim (is_gt (cmp y z)) as (λ b. length (cond b (z ∷ put cmp y zs) (y ∷ z ∷ zs)) ≡ suc (suc (length zs))) [
      | true ↦ ap suc step
      | false ↦ refl
    ]

pub length_ordered : {X : Type 0} (cmp : X → X → Ordering) (l : List X) → length (ordered cmp l) ≡ length l
length_ordered cmp [] = refl
length_ordered cmp (x ∷ xs) = length_put cmp x (ordered cmp xs) ∙ ap suc (length_ordered cmp xs)

-- what a selection says of both sides
none_below : {X : Type 0} {cmp : X → X → Ordering} → IsTotalOrder cmp → (x : X) (back : List X) →
    ((k : ℕ) (d : X) → k < length back → is_lt (cmp (get_or back k d) x) ≡ false) → Above cmp x back
none_below order x [] above = tt
none_below {cmp = cmp} order x (b ∷ back) above =
    (not_after (cmp x b) (cmp b x) (order.antisymm x b) (above 0 x (omega arith)), none_below order x back (λ k d low. above (suc k) d (omega arith)))

all_below : {X : Type 0} {cmp : X → X → Ordering} → IsTotalOrder cmp → (x : X) (front back : List X) → Above cmp x back →
    ((k : ℕ) (d : X) → k < length front → is_lt (cmp x (get_or front k d)) ≡ false) → AllAbove cmp front (x ∷ back)
all_below order x [] back above below = tt
all_below {cmp = cmp} order x (a ∷ front) back above below =
    let le : is_gt (cmp a x) ≡ false = not_after (cmp a x) (cmp x a) (order.antisymm a x) (below 0 x (omega arith)) in
    ((le, above_lower order a x back le above), all_below order x front back above (λ k d low. below (suc k) d (omega arith)))

-- the front that a selection leaves, in order, is the front of all in order
pub front_in_order : {X : Type 0} {cmp : X → X → Ordering} → IsTotalOrder cmp → ((x y : X) → cmp x y ≡ Equal → x ≡ y) →
    (xs front : List X) (x : X) (back : List X) → IsPermutation xs (front ++ x ∷ back) → IsSplitAround cmp front x back →
    take (length front) (ordered cmp xs) ≡ ordered cmp front
front_in_order {cmp = cmp} order same xs front x back moved split =
    let above : Above cmp x back = none_below order x back split.1 in
    let sides : AllAbove cmp front (x ∷ back) = all_below order x front back above split.0 in
    let joined : ordered cmp xs ≡ ordered cmp front ++ ordered cmp (x ∷ back) =
    same_in_order order same (ordered cmp xs) (ordered cmp front ++ ordered cmp (x ∷ back)) (rises_ordered order xs)
    (rises_append cmp (ordered cmp front) (ordered cmp (x ∷ back)) (rises_ordered order front) (rises_ordered order (x ∷ back))
    (all_above_ordered cmp front (ordered cmp (x ∷ back)) (all_above_right cmp front (x ∷ back) sides)))
    (λ y. count_ordered cmp y xs ∙ sym (count_permutation cmp y xs (front ++ x ∷ back) moved) ∙ count_append cmp y front (x ∷ back)
    ∙ sym (count_append cmp y (ordered cmp front) (ordered cmp (x ∷ back)) ∙ (λ i. count_ordered cmp y front i + count_ordered cmp y (x ∷ back) i))) in
    ap (take (length front)) joined ∙ take_at (ordered cmp front) (ordered cmp (x ∷ back)) (length front) (length_ordered cmp front)
