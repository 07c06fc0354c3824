-- The answers of a join are the pairs within the radius, in order.
use Rattle.std.proofs.Common.{◌≡◌, ℕ, zero, suc, ◌+◌, ◌<◌, ◌≤◌, Bool, true, false, cond, List, [], ◌∷◌, ◌++◌, length, get_or, refl, sym, ap, inl, inr, arith, ◌∙◌}
use Rattle.std.specs.Prelude.{IsTrue, filter, ◌↔◌}
use Rattle.std.specs.List.{AllByRecursion}
use Rattle.std.proofs.lemmas.Bool.Decides.{nat_tests}
use Rattle.metric_laws.specs.Lists.{IsIn}
use Rattle.metric_laws.specs.Space.{Space}
use Rattle.metric_laws.proofs.Published.{all_filter, all_weaker, all_append, in-filter, filter-in, in-append_left, in-append_right, in-append}
use Rattle.scan_model.specs.declared.hit.Pair.{Pair}
use Rattle.scan_model.specs.Join.{pairs_from, all_pairs, is_close, join_pairs}
use Rattle.scan_model.specs.Laws.{Ascends, PairBefore, IsJoinAnswer}

ascends_filter : {X : Type 0} (Before : X → X → Type 0) (p : X → Bool) (l : List X) → Ascends Before l → Ascends Before (filter p l)
ascends_filter Before p [] up = tt
ascends_filter Before p (x ∷ xs) up =
    let step = ascends_filter Before p xs up.1 in
    elim (p x) as (λ b. Ascends Before (cond b (x ∷ filter p xs) (filter p xs))) [ true ↦ (all_filter (Before x) p xs up.0, step) | false ↦ step ]

ascends_append : {X : Type 0} (Before : X → X → Type 0) (xs ys : List X) → Ascends Before xs → Ascends Before ys →
    AllByRecursion (λ x. AllByRecursion (Before x) ys) xs → Ascends Before (xs ++ ys)
ascends_append Before [] ys one two all = two
ascends_append Before (x ∷ xs) ys one two all = (all_append (Before x) xs ys one.0 all.0, ascends_append Before xs ys one.1 two all.1)

-- the pairs of one left point

rights_from : (s : Space) (i : ℕ) (p : List ℕ) (j low : ℕ) (points : List (List ℕ)) → low < j → AllByRecursion (λ pair. (pair.left ≡ i) × (low < pair.right)) (pairs_from s i p j points)
rights_from s i p j low [] above = tt
rights_from s i p j low (q ∷ points) above = ((refl, above), rights_from s i p (j + 1) low points (omega arith))

lefts_are : (s : Space) (i : ℕ) (p : List ℕ) (j : ℕ) (points : List (List ℕ)) → AllByRecursion (λ pair. pair.left ≡ i) (pairs_from s i p j points)
lefts_are s i p j [] = tt
lefts_are s i p j (q ∷ points) = (refl, lefts_are s i p (j + 1) points)

ascends_row : (s : Space) (i : ℕ) (p : List ℕ) (j : ℕ) (points : List (List ℕ)) → Ascends PairBefore (pairs_from s i p j points)
ascends_row s i p j [] = tt
ascends_row s i p j (q ∷ points) =
    let one : Pair = record { left = i; right = j; dist = s.dist p q } in (
      all_weaker (λ (pair : Pair). (pair.left ≡ i) × (j < pair.right)) (PairBefore one) (pairs_from s i p (j + 1) points)
          (λ pair h. inr (sym h.0, h.1)) (rights_from s i p (j + 1) j points (omega arith)),
      ascends_row s i p (j + 1) points,
    )

lefts_from : (s : Space) (i low : ℕ) (left right : List (List ℕ)) → low < i → AllByRecursion (λ pair. low < pair.left) (all_pairs s i left right)
lefts_from s i low [] right above = tt
lefts_from s i low (p ∷ left) right above =
    all_append (λ pair. low < pair.left) (pairs_from s i p 0 right) (all_pairs s (i + 1) left right)
    (all_weaker (λ (pair : Pair). pair.left ≡ i) (λ pair. low < pair.left) (pairs_from s i p 0 right) (λ pair same. omega (arith, same)) (lefts_are s i p 0 right))
    (lefts_from s (i + 1) low left right (omega arith))

ascends_all : (s : Space) (i : ℕ) (left right : List (List ℕ)) → Ascends PairBefore (all_pairs s i left right)
ascends_all s i [] right = tt
ascends_all s i (p ∷ left) right =
    ascends_append PairBefore (pairs_from s i p 0 right) (all_pairs s (i + 1) left right) (ascends_row s i p 0 right) (ascends_all s (i + 1) left right)
    (all_weaker (λ (pair : Pair). pair.left ≡ i) (λ pair. AllByRecursion (PairBefore pair) (all_pairs s (i + 1) left right)) (pairs_from s i p 0 right)
    (λ pair same. all_weaker (λ (other : Pair). i < other.left) (PairBefore pair) (all_pairs s (i + 1) left right) (λ other above. inl (omega (arith, same))) (lefts_from s (i + 1) i left right (omega arith)))
    (lefts_are s i p 0 right))

-- membership

row_at : (s : Space) (i : ℕ) (p : List ℕ) (j : ℕ) (points : List (List ℕ)) (pair : Pair) → IsIn pair (pairs_from s i p j points) →
    (k : ℕ) × (pair.left ≡ i) × (pair.right ≡ j + k) × (k < length points) × (pair.dist ≡ s.dist p (get_or points k []))
row_at s i p j [] pair within = absurd within
row_at s i p j (q ∷ points) pair within = elim within [
  | inl e ↦ (0, ap (λ (x : Pair). x.left) e, ap (λ (x : Pair). x.right) e ∙ omega arith, omega arith, ap (λ (x : Pair). x.dist) e)
  | inr later ↦
      let deep = row_at s i p (j + 1) points pair later in
      (suc deep.0, deep.1, deep.2 ∙ omega arith, omega (arith, deep.3), deep.4)
]

at_row : (s : Space) (i : ℕ) (p : List ℕ) (j : ℕ) (points : List (List ℕ)) (pair : Pair) (k : ℕ) → pair.left ≡ i → pair.right ≡ j + k → k < length points →
    pair.dist ≡ s.dist p (get_or points k []) → IsIn pair (pairs_from s i p j points)
at_row s i p j [] pair k left right low dist = absurd (omega arith)
at_row s i p j (q ∷ points) pair zero left right low dist = inl (let same : pair.right ≡ j = right ∙ omega arith in λ n. record { left = left n; right = same n; dist = dist n })
at_row s i p j (q ∷ points) pair (suc k) left right low dist = inr (at_row s i p (j + 1) points pair k left (right ∙ omega arith) (omega arith) dist)

all_at : (s : Space) (i : ℕ) (left right : List (List ℕ)) (pair : Pair) → IsIn pair (all_pairs s i left right) →
    (k : ℕ) × (pair.left ≡ i + k) × (k < length left) × (pair.right < length right) × (pair.dist ≡ s.dist (get_or left k []) (get_or right pair.right []))
all_at s i [] right pair within = absurd within
all_at s i (p ∷ left) right pair within = elim (in-append (pairs_from s i p 0 right) (all_pairs s (i + 1) left right) pair within) [
  | inl here ↦
      let row = row_at s i p 0 right pair here in
      let same : row.0 ≡ pair.right = omega (arith, row.2) in
      (0, row.1 ∙ omega arith, omega arith, omega (arith, row.2, row.3), row.4 ∙ ap (λ (k : ℕ). s.dist p (get_or right k [])) same)
  | inr later ↦
      let deep = all_at s (i + 1) left right pair later in
      (suc deep.0, deep.1 ∙ omega arith, omega (arith, deep.2), deep.3, deep.4)
]

at_all : (s : Space) (i : ℕ) (left right : List (List ℕ)) (pair : Pair) (k : ℕ) → pair.left ≡ i + k → k < length left → pair.right < length right →
    pair.dist ≡ s.dist (get_or left k []) (get_or right pair.right []) → IsIn pair (all_pairs s i left right)
at_all s i [] right pair k at low under dist = absurd (omega arith)
at_all s i (p ∷ left) right pair zero at low under dist =
    in-append_left (pairs_from s i p 0 right) (all_pairs s (i + 1) left right) pair
    (at_row s i p 0 right pair pair.right (at ∙ omega arith) (omega arith) under dist)
at_all s i (p ∷ left) right pair (suc k) at low under dist =
    in-append_right (pairs_from s i p 0 right) (all_pairs s (i + 1) left right) pair
    (at_all s (i + 1) left right pair k (at ∙ omega arith) (omega arith) under dist)

close_le : (r : ℕ) (pair : Pair) → IsTrue (is_close r pair) → pair.dist ≤ r
close_le r pair within = grind (arith, nat_tests)

le_close : (r : ℕ) (pair : Pair) → pair.dist ≤ r → IsTrue (is_close r pair)
le_close r pair le = grind (arith, nat_tests)

pub join_answers : (s : Space) (left right : List (List ℕ)) (r : ℕ) →
    Ascends PairBefore (join_pairs s left right r) × ((pair : Pair) → IsIn pair (join_pairs s left right r) ↔ IsJoinAnswer s left right r pair)
join_answers s left right r = (ascends_filter PairBefore (is_close r) (all_pairs s 0 left right) (ascends_all s 0 left right), λ pair. (onward pair, back pair))
  where
    onward : (pair : Pair) → IsIn pair (join_pairs s left right r) → IsJoinAnswer s left right r pair
    onward pair within =
        let kept = in-filter (is_close r) (all_pairs s 0 left right) pair within in
        let at = all_at s 0 left right pair kept.0 in
        let same : at.0 ≡ pair.left = omega (arith, at.1) in
        record {
          left_object = omega (arith, at.1, at.2);
          right_object = at.3;
          dist = at.4 ∙ ap (λ (k : ℕ). s.dist (get_or left k []) (get_or right pair.right [])) same;
          within = close_le r pair kept.1;
        }

    back : (pair : Pair) → IsJoinAnswer s left right r pair → IsIn pair (join_pairs s left right r)
    back pair answer =
        filter-in (is_close r) (all_pairs s 0 left right) pair
        (at_all s 0 left right pair pair.left (omega arith) answer.left_object answer.right_object answer.dist) (le_close r pair answer.within)
