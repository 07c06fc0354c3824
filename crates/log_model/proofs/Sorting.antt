-- A sort and a removal of doubles put a list in order.
use Rattle.std.proofs.Common.{◌≡◌, ℕ, zero, suc, ◌+◌, ◌<◌, ◌⊎◌, Bool, true, false, cond, List, [], ◌∷◌, refl, sym, inl, inr, arith, ◌∙◌, length, get_or, add-one, nat_cmp, subst}
use Rattle.std.specs.Prelude.{IsTrue, Contains, IsPermutation}
use Rattle.std.specs.List.{AllByRecursion, dedup}
use Rattle.std.specs.List.Sorted.{IsSorted, IsSortedBy}
use Rattle.std.specs.Ordering.{is_lt, ordering_then}
use Rattle.std.proofs.lemmas.Bool.Decides.{nat_tests}
use Rattle.std.proofs.lemmas.List.Sorted.{Contains-permutation, IsPermutation-sym}
use Rattle.metric_laws.specs.Lists.{IsIn}
use Rattle.metric_laws.proofs.Published.{all_weaker}
use Rattle.scan_model.specs.declared.hit.Hit.{Hit}
use Rattle.scan_model.specs.declared.hit.Pair.{Pair}
use Rattle.scan_model.specs.Hits.{hit_cmp}
use Rattle.scan_model.specs.Laws.{Ascends}
use Rattle.log_model.specs.InOrder.{in_order, hit_before, pair_before}
use Rattle.log_model.proofs.Order.{IsOrder, rising_same, rising-in_order, in-in_order, in_order-keeps}

-- membership by place and by recursion
pub Contains-from_in : {X : Type 0} (xs : List X) (x : X) → IsIn x xs → Contains xs x
Contains-from_in [] x k = absurd k
Contains-from_in (y ∷ ys) x k = elim k [ inl e ↦ (0, (let l : 0 < length (y ∷ ys) = omega arith in l), sym e) | inr w ↦ (let deep = Contains-from_in ys x w in (suc deep.0, (let l : suc deep.0 < length (y ∷ ys) = omega (arith, deep.1) in l), deep.2)) ]

pub in-from_at : {X : Type 0} (xs : List X) (k : ℕ) (x : X) → k < length xs → get_or xs k x ≡ x → IsIn x xs
in-from_at [] k x low is = absurd (omega arith)
in-from_at (y ∷ ys) zero x low is = inl (sym is)
in-from_at (y ∷ ys) (suc k) x low is = inr (in-from_at ys k x (omega arith) is)

module _ {X : Type 0} (before : X → X → Bool) (order : IsOrder X before) where
  abbrev Before : X → X → Type 0
  Before a b = IsTrue (before a b)

  abbrev Rising : List X → Type 0
  Rising xs = Ascends Before xs

  -- each value doesn't come after the next
  abbrev pub NeverFalls : List X → Type 0
  NeverFalls [] = Unit {0}
  NeverFalls (x ∷ []) = Unit {0}
  NeverFalls (x ∷ y ∷ ys) = (before y x ≡ false) × NeverFalls (y ∷ ys)

  pub never_falls : (xs : List X) → IsSortedBy before xs → NeverFalls xs
  never_falls [] up = tt
  never_falls (x ∷ []) up = tt
  never_falls (x ∷ y ∷ ys) up =
      (up 0 x (omega arith) (omega arith), never_falls (y ∷ ys) (λ k d low high. let h = up (suc k) d (omega arith) (omega arith) in later k d h))
    where
      later : (k : ℕ) (d : X) → before (get_or (x ∷ y ∷ ys) (suc k + 1) d) (get_or (x ∷ y ∷ ys) (suc k) d) ≡ false →
          before (get_or (y ∷ ys) (k + 1) d) (get_or (y ∷ ys) k d) ≡ false
      later k d h = rw add-one (rw add-one at h)

  -- a sorted list without doubles is ascending
  module _ (same : X → X → Bool) (is_known : (x y : X) → same x y ≡ true → x ≡ y) (itself : (x : X) → same x x ≡ true) where
    pub rises : (k : X) (xs : List X) → NeverFalls (k ∷ xs) → Rising (dedup same (k ∷ xs)) × AllByRecursion (λ z. (z ≡ k) ⊎ Before k z) (dedup same (k ∷ xs))
    rises k [] up = ((tt, tt), (inl refl, tt))
    rises k (x ∷ xs) up = cases (same x k) refl (rises k xs) (rises x xs up.1)
      where
        cases : (b : Bool) → same x k ≡ b →
            (NeverFalls (k ∷ xs) → Rising (dedup same (k ∷ xs)) × AllByRecursion (λ z. (z ≡ k) ⊎ Before k z) (dedup same (k ∷ xs))) →
            Rising (dedup same (x ∷ xs)) × AllByRecursion (λ z. (z ≡ x) ⊎ Before x z) (dedup same (x ∷ xs)) →
            Rising (cond b (dedup same (k ∷ xs)) (k ∷ dedup same (x ∷ xs))) × AllByRecursion (λ z. (z ≡ k) ⊎ Before k z) (cond b (dedup same (k ∷ xs)) (k ∷ dedup same (x ∷ xs)))
        cases true e ih later = ih (subst (λ (y : X). NeverFalls (y ∷ xs)) (is_known x k e) up.1)
        cases false e ih later =
            let first : Before k x = is_first (before k x) refl in
            let rest = all_weaker (λ z. (z ≡ x) ⊎ Before x z) (λ z. Before k z) (dedup same (x ∷ xs))
            (λ z w. elim w [ inl i ↦ rw i first | inr b ↦ order.trans k x z first b ]) later.1 in
            ((rest, later.0), (inl refl, all_weaker (λ z. Before k z) (λ z. (z ≡ k) ⊎ Before k z) (dedup same (x ∷ xs)) (λ z b. inr b) rest))
          where
            is_first : (t : Bool) → before k x ≡ t → Before k x
            is_first true h = h
            is_first false h = absurd (let i = order.total x k up.0 h in let j : same x k ≡ true = rw i (itself k) in cc)

    pub ascending-dedup : (xs : List X) → NeverFalls xs → Rising (dedup same xs)
    ascending-dedup [] up = tt
    ascending-dedup (k ∷ xs) up = (rises k xs up).0

    pub in-dedup_from : (k : X) (xs : List X) (z : X) → IsIn z (dedup same (k ∷ xs)) → IsIn z (k ∷ xs)
    in-dedup_from k [] z h = h
    in-dedup_from k (x ∷ xs) z h = cases (same x k) (in-dedup_from k xs z) (in-dedup_from x xs z) h
      where
        cases : (b : Bool) → (IsIn z (dedup same (k ∷ xs)) → IsIn z (k ∷ xs)) → (IsIn z (dedup same (x ∷ xs)) → IsIn z (x ∷ xs)) →
            IsIn z (cond b (dedup same (k ∷ xs)) (k ∷ dedup same (x ∷ xs))) → IsIn z (k ∷ x ∷ xs)
        cases true one two h = elim (one h) [ inl e ↦ inl e | inr w ↦ inr (inr w) ]
        cases false one two h = elim h [ inl e ↦ inl e | inr w ↦ inr (two w) ]

    pub dedup_from-in : (k : X) (xs : List X) (z : X) → IsIn z (k ∷ xs) → IsIn z (dedup same (k ∷ xs))
    dedup_from-in k [] z h = h
    dedup_from-in k (x ∷ xs) z h = cases (same x k) refl (dedup_from-in k xs z) (dedup_from-in x xs z) h
      where
        cases : (b : Bool) → same x k ≡ b → (IsIn z (k ∷ xs) → IsIn z (dedup same (k ∷ xs))) → (IsIn z (x ∷ xs) → IsIn z (dedup same (x ∷ xs))) →
            IsIn z (k ∷ x ∷ xs) → IsIn z (cond b (dedup same (k ∷ xs)) (k ∷ dedup same (x ∷ xs)))
        cases true e one two h = elim h [ inl i ↦ one (inl i) | inr w ↦ elim w [ inl i ↦ one (inl (i ∙ is_known x k e)) | inr u ↦ one (inr u) ] ]
        cases false e one two h = elim h [ inl i ↦ inl i | inr w ↦ inr (two w) ]

    pub in-dedup : (xs : List X) (z : X) → IsIn z (dedup same xs) → IsIn z xs
    in-dedup [] z h = h
    in-dedup (k ∷ xs) z h = in-dedup_from k xs z h

    pub dedup-in : (xs : List X) (z : X) → IsIn z xs → IsIn z (dedup same xs)
    dedup-in [] z h = h
    dedup-in (k ∷ xs) z h = dedup_from-in k xs z h

    -- a sort and a removal of doubles put a list in order
    pub sorted_in_order : (xs ys : List X) → IsPermutation xs ys → IsSortedBy before ys → dedup same ys ≡ in_order before xs
    sorted_in_order xs ys moved up =
        rising_same before order (dedup same ys) (in_order before xs) (ascending-dedup ys (never_falls ys up)) (rising-in_order before order xs)
        (λ z h. in_order-keeps before order xs z (let c = Contains-permutation ys xs z (IsPermutation-sym xs ys moved) (Contains-from_in ys z (in-dedup ys z h)) in in-from_at xs c.0 z c.1 c.2))
        (λ z h. dedup-in ys z (let c = Contains-permutation xs ys z moved (Contains-from_in xs z (in-in_order before order xs z h)) in in-from_at ys c.0 z c.1 c.2))

-- what the sorts say
hit_lt : (a b : Hit) → is_lt (hit_cmp a b) ≡ hit_before a b
hit_lt a b = grind (arith, nat_tests)

pub sorted_hits : (ys : List Hit) → IsSorted hit_cmp ys → IsSortedBy hit_before ys
sorted_hits ys up k d low high = sym (hit_lt (get_or ys (k + 1) d) (get_or ys k d)) ∙ up k d low high

pair_lt : (a b : Pair) → is_lt (ordering_then (ordering_then (nat_cmp a.left b.left) (nat_cmp a.right b.right)) (nat_cmp a.dist b.dist)) ≡ pair_before a b
pair_lt a b = grind (arith, nat_tests)

pub sorted_pairs : (ys : List Pair) → IsSortedBy (λ a b. is_lt (ordering_then (ordering_then (nat_cmp a.left b.left) (nat_cmp a.right b.right)) (nat_cmp a.dist b.dist))) ys → IsSortedBy pair_before ys
sorted_pairs ys up k d low high = sym (pair_lt (get_or ys (k + 1) d) (get_or ys k d)) ∙ up k d low high
