-- The order of the queue.
use Rattle.std.proofs.Common.{◌≡◌, ℕ, ◌+◌, ◌<◌, ◌≤◌, inl, inr, false, Option, Some, None, List, [], ◌∷◌, ◌++◌, refl, sym, ap, arith, length, min}
use Rattle.std.specs.Prelude.{IsPermutation, IfSome}
use Rattle.std.specs.Ordering.{nat_cmp, ordering_then, is_lt}
use Rattle.std.specs.Option.{option_cmp}
use Rattle.std.specs.declared.cmp.Ordering.{Ordering}
use Rattle.std.proofs.lemmas.Bool.Decides.{nat_tests}
use Rattle.std.proofs.lemmas.List.Sorted.{IsPermutation-trans, IsPermutation-sym, IsPermutation-middle, IsPermutation-append_right, length_permutation}
use Rattle.metric_laws.specs.Lists.{IsIn}
use Rattle.nearest_search.specs.declared.pending.Pending.{Pending}
use Rattle.nearest_search.specs.Least.{IsLeast}
use Rattle.nearest_search.specs.Queue.{pending_order, IsNext, AllBeyond}
use Rattle.nearest_search.proofs.Totals.{in-permutation}

-- what isn't before is no nearer
pub not_before : (a b : ℕ) (o : Ordering) → is_lt (ordering_then (nat_cmp a b) o) ≡ false → b ≤ a
not_before a b o h = grind (arith, nat_tests)

pub least_low : (x : Pending) (xs : List Pending) → IsLeast pending_order x xs → (y : Pending) → IsIn y xs → x.low ≤ y.low
least_low x xs least y i = not_before y.low x.low (ordering_then (nat_cmp y.page x.page) (option_cmp nat_cmp y.above x.above)) (least.least y i)

-- what is taken as the least is next, where another of the queue is within rho
pub next_is : (rho : ℕ) (xs ys : List Pending) (first : Pending) (taken : Option Pending) → IfSome taken (λ x. IsPermutation xs (x ∷ ys)) → IfSome taken (λ x. IsLeast pending_order x xs) →
    IsIn first xs → first.low ≤ rho → IfSome taken (λ x. IsNext rho xs x ys)
next_is rho xs ys first None popped least i low = tt
next_is rho xs ys first (Some x) popped least i low = record {
  popped = popped;
  low = (let l = least_low x xs least first i in omega arith);
  first = least_low x xs least;
}

pub all_beyond_first : (rho : ℕ) (xs : List Pending) (first : Pending) → IsLeast pending_order first xs → rho < first.low → AllBeyond rho xs
all_beyond_first rho xs first least far y i = let l = least_low first xs least y i in omega arith

-- one of what is still to be queued is queued
pub moved_one : {A : Type 0} (all P cur cur' : List A) (x : A) → IsPermutation all (x ∷ P ++ cur) → IsPermutation (x ∷ cur) cur' → IsPermutation all (P ++ cur')
moved_one all P cur cur' x before pushed =
    IsPermutation-trans all (x ∷ (P ++ cur)) (P ++ cur') before
    (IsPermutation-trans (x ∷ (P ++ cur)) (P ++ x ∷ cur) (P ++ cur') (IsPermutation-sym (P ++ x ∷ cur) (x ∷ (P ++ cur)) (IsPermutation-middle P x cur))
    (IsPermutation-append_right P (x ∷ cur) cur' pushed))

-- a list of one is in one order
pub one_alone : {A : Type 0} (x : A) (ys : List A) → IsPermutation (x ∷ []) ys → ys ≡ x ∷ []
one_alone {A = A} x ys moved = only ys (length_permutation (x ∷ []) ys moved) (in-permutation (x ∷ []) ys x moved (inl refl))
  where
    only : (ys : List A) → length ys ≡ 1 → IsIn x ys → ys ≡ x ∷ []
    only [] long i = absurd i
    only (y ∷ []) long i = elim i [ inl e ↦ ap (λ (z : A). z ∷ []) (sym e) | inr w ↦ absurd w ]
    only (y ∷ z ∷ zs) long i = absurd (omega arith)

-- one of the distances that are still to come is taken in
pub noted_next : (k b c o r t : ℕ) → min k c ≡ min k (o + b) → min k (b + (o + r)) ≡ t → min k (c + r) ≡ t
noted_next k b c o r t one whole = omega arith
