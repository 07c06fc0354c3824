-- Sums over lists, lists in another order, and fronts of lists.
use Rattle.std.proofs.Common.{◌≡◌, ℕ, zero, suc, ◌+◌, ◌<◌, ◌≤◌, List, [], ◌∷◌, ◌++◌, refl, sym, ap, inl, inr, arith, ◌∙◌, append_assoc, length, get_or, take, drop, drop-cons, add-one, subst}
use Rattle.std.specs.Prelude.{map, if◌then◌else◌, ◌==◌, IsPermutation}
use Rattle.std.specs.List.{flat_map}
use Rattle.std.proofs.lemmas.List.{append-nil}
use Rattle.std.proofs.lemmas.List.Sorted.{IsPermutation-trans, IsPermutation-middle, IsPermutation-append_right, IsPermutation-append_left, IsPermutation-append_comm, IsPermutation-cons, IsPermutation-refl}
use Rattle.metric_laws.specs.Lists.{IsIn}
use Rattle.metric_laws.proofs.Published.{in-append, in-append_left, in-append_right}
use Rattle.tree_shape.specs.Tree.{times}
use Rattle.nearest_search.specs.Counts.{total}
use Rattle.nearest_search.proofs.Published.{total-append, total-flat_map, total-permutation, in-permutation, in-permutation_back}
use Rattle.tree_shape.proofs.Published.{in-flat_map}
use Rattle.pin_cursor.specs.declared.waiting.Candidate.{Candidate}

-- ---- sums

-- how often an id stands
abbrev pub one_of : ℕ → Candidate → ℕ
one_of id x = if x.id == id then 1 else 0

pub times_total : (id : ℕ) (cs : List Candidate) → times id (map (λ x. x.id) cs) ≡ total (one_of id) cs
times_total id [] = refl
times_total id (c ∷ cs) = ap (λ n. one_of id c + n) (times_total id cs)

-- ---- members

-- what stands in joined lists stands in one of them
pub flat_map-in : {X Y : Type 0} (f : X → List Y) (xs : List X) (y : Y) → IsIn y (flat_map f xs) → (x : X) × IsIn x xs × IsIn y (f x)
flat_map-in f [] y k = absurd k
flat_map-in f (x ∷ xs) y k =
    elim (in-append (f x) (flat_map f xs) y k) [
      | inl here ↦ (x, inl refl, here)
      | inr later ↦ (let deep = flat_map-in f xs y later in (deep.0, inr deep.1, deep.2))
    ]

-- ---- one of some lists was replaced by what it holds: N beside C, and the lists of M

module _ {X Y : Type 0} (f : X → List Y) (C C' N : List Y) (xs rest xs' M : List X) (x : X) (popped : IsPermutation xs (x ∷ rest)) (met : IsPermutation (N ++ C) C') (queued : IsPermutation (M ++ rest) xs')
    (same : f x ≡ N ++ flat_map f M) where
  in_front : (y : Y) → IsIn y C' → IsIn y (C' ++ flat_map f xs')
  in_front y k = in-append_left C' (flat_map f xs') y k

  in_new : (z : X) (y : Y) → IsIn z (M ++ rest) → IsIn y (f z) → IsIn y (C' ++ flat_map f xs')
  in_new z y k l = in-append_right C' (flat_map f xs') y (in-flat_map f xs' z y (in-permutation (M ++ rest) xs' z queued k) l)

  opened_of : (y : Y) → IsIn y (N ++ flat_map f M) → IsIn y (C' ++ flat_map f xs')
  opened_of y k =
      elim (in-append N (flat_map f M) y k) [
        | inl here ↦ in_front y (in-permutation (N ++ C) C' y met (in-append_left N C y here))
        | inr deep ↦ (let d = flat_map-in f M y deep in in_new d.0 y (in-append_left M rest d.0 d.1) d.2)
      ]

  pub still_in : (y : Y) → IsIn y (C ++ flat_map f xs) → IsIn y (C' ++ flat_map f xs')
  still_in y k =
      elim (in-append C (flat_map f xs) y k) [
        | inl here ↦ in_front y (in-permutation (N ++ C) C' y met (in-append_right N C y here))
        | inr deep ↦ (let d = flat_map-in f xs y deep in elim (in-permutation xs (x ∷ rest) d.0 popped d.1) [
          | inl first ↦ opened_of y (subst (λ (l : List Y). IsIn y l) same (subst (λ (z : X). IsIn y (f z)) first d.2))
          | inr later ↦ in_new d.0 y (in-append_right M rest d.0 later) d.2
        ])
      ]

  in_old : (z : X) (y : Y) → IsIn z (x ∷ rest) → IsIn y (f z) → IsIn y (C ++ flat_map f xs)
  in_old z y k l = in-append_right C (flat_map f xs) y (in-flat_map f xs z y (in-permutation_back xs (x ∷ rest) z popped k) l)

  of_opened : (y : Y) → IsIn y (N ++ flat_map f M) → IsIn y (C ++ flat_map f xs)
  of_opened y k = in_old x y (inl refl) (subst (λ (l : List Y). IsIn y l) (sym same) k)

  pub was_in : (y : Y) → IsIn y (C' ++ flat_map f xs') → IsIn y (C ++ flat_map f xs)
  was_in y k =
      elim (in-append C' (flat_map f xs') y k) [
        | inl here ↦ elim (in-append N C y (in-permutation_back (N ++ C) C' y met here)) [
          | inl fresh ↦ of_opened y (in-append_left N (flat_map f M) y fresh)
          | inr old ↦ in-append_left C (flat_map f xs) y old
        ]
        | inr deep ↦ (let d = flat_map-in f xs' y deep in elim (in-append M rest d.0 (in-permutation_back (M ++ rest) xs' d.0 queued d.1)) [
          | inl fresh ↦ of_opened y (in-append_right N (flat_map f M) y (in-flat_map f M d.0 y fresh d.2))
          | inr old ↦ in_old d.0 y (inr old) d.2
        ])
      ]

  pub same_total : (g : Y → ℕ) → total g (C ++ flat_map f xs) ≡ total g (C' ++ flat_map f xs')
  same_total g =
      let a = total-append g C (flat_map f xs) in let b = total-append g C' (flat_map f xs') in
      let c = total-flat_map g f xs in let d = total-flat_map g f xs' in
      let p = total-permutation (λ x. total g (f x)) xs (x ∷ rest) popped in
      let q = total-permutation (λ x. total g (f x)) (M ++ rest) xs' queued in
      let r = total-append (λ x. total g (f x)) M rest in
      let u = total-permutation g (N ++ C) C' met in let v = total-append g N C in
      let s : total g (f x) ≡ total g N + total g (flat_map f M) = ap (total g) same ∙ total-append g N (flat_map f M) in
      let w = total-flat_map g f M in
      omega arith

-- ---- fronts

drop_none : {X : Type 0} (n : ℕ) → drop {A = X} n [] ≡ []
drop_none zero = refl
drop_none (suc n) = refl

pub drop_add : {X : Type 0} (a b : ℕ) (l : List X) → drop b (drop a l) ≡ drop (a + b) l
drop_add zero b l = ap (λ n. drop n l) (let e : b ≡ 0 + b = omega arith in e)
drop_add {X = X} (suc a) b [] = drop_none {X = X} b ∙ sym (drop_none {X = X} (suc a + b))
drop_add (suc a) b (x ∷ l) = drop_add a b l ∙ ap (λ n. drop n (x ∷ l)) (let e : suc (a + b) ≡ suc a + b = omega arith in e)

pub take_more : {X : Type 0} (k : ℕ) (l t : List X) (h : X) → drop k l ≡ h ∷ t → take (k + 1) l ≡ take k l ++ h ∷ []
take_more k l t h is = subst (λ (n : ℕ). take n l ≡ take k l ++ h ∷ []) (let e : suc k ≡ k + 1 = omega arith in e) (more k l is)
  where
    more : (k : ℕ) (l : List _) → drop k l ≡ h ∷ t → take (suc k) l ≡ take k l ++ h ∷ []
    more zero l is = rw is refl
    more (suc k) [] is = absurd (cc)
    more (suc k) (x ∷ l) is = ap (λ r. x ∷ r) (more k l is)

-- nothing is left behind the front
pub take_rest : {X : Type 0} (k n : ℕ) (l : List X) → drop k l ≡ [] → k ≤ n → take k l ≡ take n l
take_rest zero zero l is low = refl
take_rest zero (suc n) [] is low = refl
take_rest zero (suc n) (x ∷ l) is low = absurd (cc)
take_rest (suc k) zero l is low = absurd (omega arith)
take_rest (suc k) (suc n) [] is low = refl
take_rest (suc k) (suc n) (x ∷ l) is low = ap (λ r. x ∷ r) (take_rest k n l is (omega arith))

-- ---- entries that are added one at a time

pub map-drop : {X Y : Type 0} (f : X → Y) (es : List X) (i : ℕ) (e : X) → i < length es → e ≡ get_or es i e → map f (drop i es) ≡ f e ∷ map f (drop (i + 1) es)
map-drop f es i e low is = rw (add-one, drop-cons es i e low, ← is) refl

-- ---- accounts

swapped : {X : Type 0} (a b c : List X) → IsPermutation (a ++ (b ++ c)) (b ++ (a ++ c))
swapped a b c =
    subst (λ l. IsPermutation l (b ++ (a ++ c))) (append_assoc a b c)
    (subst (λ l. IsPermutation ((a ++ b) ++ c) l) (append_assoc b a c) (IsPermutation-append_left c (a ++ b) (b ++ a) (IsPermutation-append_comm a b)))

-- one of what waits was opened, and what it holds waits
pub account_opened : {X : Type 0} (a f F opened xs rest xs' : List X) (x : X) → IsPermutation (a ++ F) (opened ++ xs) → IsPermutation xs (x ∷ rest) → IsPermutation (f ++ rest) xs' →
    IsPermutation (a ++ (f ++ F)) (x ∷ (opened ++ xs'))
account_opened a f F opened xs rest xs' x before popped queued =
    IsPermutation-trans (a ++ (f ++ F)) (f ++ (a ++ F)) (x ∷ (opened ++ xs')) (swapped a f F)
    (IsPermutation-trans (f ++ (a ++ F)) (f ++ (opened ++ xs)) (x ∷ (opened ++ xs')) (IsPermutation-append_right f (a ++ F) (opened ++ xs) before)
    (IsPermutation-trans (f ++ (opened ++ xs)) (f ++ (opened ++ (x ∷ rest))) (x ∷ (opened ++ xs'))
    (IsPermutation-append_right f (opened ++ xs) (opened ++ (x ∷ rest)) (IsPermutation-append_right opened xs (x ∷ rest) popped))
    (IsPermutation-trans (f ++ (opened ++ (x ∷ rest))) (opened ++ (f ++ (x ∷ rest))) (x ∷ (opened ++ xs')) (swapped f opened (x ∷ rest))
    (IsPermutation-trans (opened ++ (f ++ (x ∷ rest))) (opened ++ (x ∷ xs')) (x ∷ (opened ++ xs'))
    (IsPermutation-append_right opened (f ++ (x ∷ rest)) (x ∷ xs') (IsPermutation-trans (f ++ (x ∷ rest)) (x ∷ (f ++ rest)) (x ∷ xs') (IsPermutation-middle f x rest) (IsPermutation-cons x (f ++ rest) xs' queued)))
    (IsPermutation-middle opened x xs')))))

-- more waits
pub account_met : {X : Type 0} (a f F given cs cs' : List X) → IsPermutation (a ++ F) (given ++ cs) → IsPermutation (f ++ cs) cs' → IsPermutation (a ++ (f ++ F)) (given ++ cs')
account_met a f F given cs cs' before met =
    IsPermutation-trans (a ++ (f ++ F)) (f ++ (a ++ F)) (given ++ cs') (swapped a f F)
    (IsPermutation-trans (f ++ (a ++ F)) (f ++ (given ++ cs)) (given ++ cs') (IsPermutation-append_right f (a ++ F) (given ++ cs) before)
    (IsPermutation-trans (f ++ (given ++ cs)) (given ++ (f ++ cs)) (given ++ cs') (swapped f given cs) (IsPermutation-append_right given (f ++ cs) cs' met)))

-- nothing was opened or given
pub account_begun : {X : Type 0} (xs : List X) → IsPermutation (xs ++ []) xs
account_begun xs = subst (λ l. IsPermutation l xs) (sym (append-nil xs)) (IsPermutation-refl xs)
