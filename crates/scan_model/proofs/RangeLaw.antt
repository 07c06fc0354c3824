-- The answers of a range query are the objects within the radius, in order.
use Rattle.std.proofs.Common.{◌≡◌, ℕ, zero, suc, ◌+◌, ◌<◌, ◌≤◌, true, false, cond, List, [], ◌∷◌, length, get_or, ap, inl, inr, arith, ◌∙◌, Ordering}
use Rattle.std.specs.Prelude.{IsTrue, filter, ◌↔◌}
use Rattle.std.specs.List.{AllByRecursion}
use Rattle.std.specs.Ordering.{is_gt}
use Rattle.std.proofs.lemmas.Bool.{cases_Bool}
use Rattle.std.proofs.lemmas.Bool.Decides.{nat_tests}
use Rattle.metric_laws.specs.Lists.{IsIn}
use Rattle.metric_laws.specs.Space.{Space}
use Rattle.metric_laws.proofs.Published.{all_filter, all_weaker, in-filter, filter-in}
use Rattle.scan_model.specs.declared.hit.Hit.{Hit}
use Rattle.scan_model.specs.Hits.{hit_cmp}
use Rattle.scan_model.specs.Ordered.{put, ordered}
use Rattle.scan_model.specs.Scan.{hits_from, is_within, range_hits}
use Rattle.scan_model.specs.Laws.{Ascends, HitBefore, IsRangeAnswer}

-- a list in order has the values of the list

pub all_put : {X : Type 0} (cmp : X → X → Ordering) (P : X → Type 0) (x : X) (l : List X) → P x → AllByRecursion P l → AllByRecursion P (put cmp x l)
all_put cmp P x [] one all = (one, tt)
all_put cmp P x (y ∷ ys) one all =
    let step = all_put cmp P x ys one all.1 in
    elim (is_gt (cmp x y)) as (λ b. AllByRecursion P (cond b (y ∷ put cmp x ys) (x ∷ y ∷ ys))) [
      | true ↦ (all.0, step)
      | false ↦ (one, all)
    ]

pub all_ordered : {X : Type 0} (cmp : X → X → Ordering) (P : X → Type 0) (l : List X) → AllByRecursion P l → AllByRecursion P (ordered cmp l)
all_ordered cmp P [] all = tt
all_ordered cmp P (x ∷ xs) all = all_put cmp P x (ordered cmp xs) all.0 (all_ordered cmp P xs all.1)

pub in-put : {X : Type 0} (cmp : X → X → Ordering) (x : X) (l : List X) (z : X) → IsIn z (put cmp x l) → IsIn z (x ∷ l)
in-put cmp x [] z = λ k. k
in-put cmp x (y ∷ ys) z =
    let step = in-put cmp x ys z in
    elim (is_gt (cmp x y)) as (λ b. IsIn z (cond b (y ∷ put cmp x ys) (x ∷ y ∷ ys)) → IsIn z (x ∷ y ∷ ys)) [
      | true ↦ λ k. elim k [ inl e ↦ inr (inl e) | inr w ↦ elim (step w) [ inl e ↦ inl e | inr u ↦ inr (inr u) ] ]
      | false ↦ λ k. k
    ]

pub put-in : {X : Type 0} (cmp : X → X → Ordering) (x : X) (l : List X) (z : X) → IsIn z (x ∷ l) → IsIn z (put cmp x l)
put-in cmp x [] z = λ k. k
put-in cmp x (y ∷ ys) z =
    let step = put-in cmp x ys z in
    elim (is_gt (cmp x y)) as (λ b. IsIn z (x ∷ y ∷ ys) → IsIn z (cond b (y ∷ put cmp x ys) (x ∷ y ∷ ys))) [
      | true ↦ λ k. elim k [ inl e ↦ inr (step (inl e)) | inr w ↦ elim w [ inl e ↦ inl e | inr u ↦ inr (step (inr u)) ] ]
      | false ↦ λ k. k
    ]

pub in-ordered : {X : Type 0} (cmp : X → X → Ordering) (l : List X) (z : X) → IsIn z (ordered cmp l) → IsIn z l
in-ordered cmp [] z within = within
in-ordered cmp (x ∷ xs) z within = elim (in-put cmp x (ordered cmp xs) z within) [ inl e ↦ inl e | inr w ↦ inr (in-ordered cmp xs z w) ]

pub ordered-in : {X : Type 0} (cmp : X → X → Ordering) (l : List X) (z : X) → IsIn z l → IsIn z (ordered cmp l)
ordered-in cmp [] z within = within
ordered-in cmp (x ∷ xs) z within = put-in cmp x (ordered cmp xs) z (elim within [ inl e ↦ inl e | inr w ↦ inr (ordered-in cmp xs z w) ])

-- the order of hits

before_of_above : (x y : Hit) → is_gt (hit_cmp x y) ≡ true → HitBefore y x
before_of_above x y above = grind (arith, nat_tests)

before_of_id : (x y : Hit) → is_gt (hit_cmp x y) ≡ false → x.id < y.id → HitBefore x y
before_of_id x y below lower = grind (arith, nat_tests)

before_trans : (x y z : Hit) → HitBefore x y → HitBefore y z → HitBefore x z
before_trans x y z one two = grind (arith, nat_tests)

ascends_put : (x : Hit) (l : List Hit) → Ascends HitBefore l → AllByRecursion (λ y. x.id < y.id) l → Ascends HitBefore (put hit_cmp x l)
ascends_put x [] up lower = (tt, tt)
ascends_put x (y ∷ ys) up lower = elim (cases_Bool (is_gt (hit_cmp x y))) [
  | inl above ↦ rw above (all_put hit_cmp (HitBefore y) x ys (before_of_above x y above) up.0, ascends_put x ys up.1 lower.1)
  | inr below ↦
      let first : HitBefore x y = before_of_id x y below lower.0 in
      rw below ((first, all_weaker (HitBefore y) (HitBefore x) ys (λ z later. before_trans x y z first later) up.0), up)
]

ids_from : (s : Space) (q : List ℕ) (first low : ℕ) (points : List (List ℕ)) → low < first → AllByRecursion (λ h. low < h.id) (hits_from s q first points)
ids_from s q first low [] above = tt
ids_from s q first low (p ∷ points) above = (above, ids_from s q (first + 1) low points (omega arith))

pub ascends_range : (s : Space) (q : List ℕ) (r first : ℕ) (points : List (List ℕ)) → Ascends HitBefore (ordered hit_cmp (filter (is_within r) (hits_from s q first points)))
ascends_range s q r first [] = tt
ascends_range s q r first (p ∷ points) =
    let hit : Hit = record { id = first; dist = s.dist p q } in
    let rest = filter (is_within r) (hits_from s q (first + 1) points) in
    let up = ascends_range s q r (first + 1) points in
    let later = all_ordered hit_cmp (λ h. first < h.id) rest (all_filter (λ h. first < h.id) (is_within r) (hits_from s q (first + 1) points) (ids_from s q (first + 1) first points (omega arith))) in
    elim (is_within r hit) as (λ b. Ascends HitBefore (ordered hit_cmp (cond b (hit ∷ rest) rest))) [ true ↦ ascends_put hit (ordered hit_cmp rest) up later | false ↦ up ]

-- the hits of all points

hit_at : (s : Space) (q : List ℕ) (first : ℕ) (points : List (List ℕ)) (h : Hit) → IsIn h (hits_from s q first points) →
    (k : ℕ) × (h.id ≡ first + k) × (k < length points) × (h.dist ≡ s.dist (get_or points k []) q)
hit_at s q first [] h within = absurd within
hit_at s q first (p ∷ points) h within = elim within [
  | inl e ↦ (0, ap (λ (x : Hit). x.id) e ∙ omega arith, omega arith, ap (λ (x : Hit). x.dist) e)
  | inr later ↦
      let deep = hit_at s q (first + 1) points h later in
      (suc deep.0, deep.1 ∙ omega arith, omega (arith, deep.2), deep.3)
]

at_hit : (s : Space) (q : List ℕ) (first : ℕ) (points : List (List ℕ)) (h : Hit) (k : ℕ) → h.id ≡ first + k → k < length points → h.dist ≡ s.dist (get_or points k []) q →
    IsIn h (hits_from s q first points)
at_hit s q first [] h k id low dist = absurd (omega arith)
at_hit s q first (p ∷ points) h zero id low dist = inl (let same : h.id ≡ first = id ∙ omega arith in λ i. record { id = same i; dist = dist i })
at_hit s q first (p ∷ points) h (suc k) id low dist = inr (at_hit s q (first + 1) points h k (id ∙ omega arith) (omega arith) dist)

within_le : (r : ℕ) (h : Hit) → IsTrue (is_within r h) → h.dist ≤ r
within_le r h within = grind (arith, nat_tests)

le_within : (r : ℕ) (h : Hit) → h.dist ≤ r → IsTrue (is_within r h)
le_within r h le = grind (arith, nat_tests)

pub range_answers : (s : Space) (points : List (List ℕ)) (q : List ℕ) (r : ℕ) →
    Ascends HitBefore (range_hits s points q r) × ((h : Hit) → IsIn h (range_hits s points q r) ↔ IsRangeAnswer s points q r h)
range_answers s points q r = (ascends_range s q r 0 points, λ h. (onward h, back h))
  where
    onward : (h : Hit) → IsIn h (range_hits s points q r) → IsRangeAnswer s points q r h
    onward h within =
        let kept = in-filter (is_within r) (hits_from s q 0 points) h (in-ordered hit_cmp (filter (is_within r) (hits_from s q 0 points)) h within) in
        let at = hit_at s q 0 points h kept.0 in
        let same : at.0 ≡ h.id = omega (arith, at.1) in
        record { object = omega (arith, at.1, at.2); dist = at.3 ∙ ap (λ (k : ℕ). s.dist (get_or points k []) q) same; within = within_le r h kept.1 }

    back : (h : Hit) → IsRangeAnswer s points q r h → IsIn h (range_hits s points q r)
    back h answer =
        ordered-in hit_cmp (filter (is_within r) (hits_from s q 0 points)) h (filter-in (is_within r) (hits_from s q 0 points) h
        (at_hit s q 0 points h h.id (omega arith) answer.object answer.dist) (le_within r h answer.within))
