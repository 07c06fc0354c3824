-- The order of what waits.
use Rattle.std.proofs.Common.{◌≡◌, ◌⊎◌, ℕ, ◌<◌, ◌≤◌, Bool, true, false, List, Option, Some, None, refl, inl, inr, arith}
use Rattle.std.specs.Prelude.{nat_lt, IfSome}
use Rattle.std.specs.Ordering.{nat_cmp, ordering_then, is_lt}
use Rattle.std.specs.declared.cmp.Ordering.{Ordering}
use Rattle.std.proofs.lemmas.Bool.Decides.{nat_tests}
use Rattle.metric_laws.specs.Lists.{IsIn}
use Rattle.nearest_search.specs.Least.{IsLeast}
use Rattle.pin_cursor.specs.declared.waiting.Subtree.{Subtree}
use Rattle.pin_cursor.specs.declared.waiting.Candidate.{Candidate}
use Rattle.pin_cursor.specs.Order.{subtree_order, candidate_order, IsBeyond, AllBeyond, IsFirst}

-- ---- subtrees

not_before : (a b : ℕ) (o : Ordering) → is_lt (ordering_then (nat_cmp a b) o) ≡ false → b ≤ a
not_before a b o h = grind (arith, nat_tests)

least_low : (x : Subtree) (xs : List Subtree) → IsLeast subtree_order x xs → (y : Subtree) → IsIn y xs → x.low ≤ y.low
least_low x xs least y i = not_before y.low x.low (nat_cmp y.page x.page) (least.least y i)

pub all_beyond : (reach : Option ℕ) (xs : List Subtree) (first : Subtree) → IsLeast subtree_order first xs → IsBeyond reach first.low → AllBeyond reach xs
all_beyond None xs first least far = absurd far
all_beyond (Some reach) xs first least far = λ y i. let l = least_low first xs least y i in omega arith

-- what is taken as the least is not beyond the reach where another is not
pub taken_within : (reach : Option ℕ) (xs : List Subtree) (first : Subtree) (taken : Option Subtree) → IfSome taken (λ x. IsLeast subtree_order x xs) → IsIn first xs →
    (IsBeyond reach first.low → ⊥) → IfSome taken (λ x. IsBeyond reach x.low → ⊥)
taken_within reach xs first None least i near = tt
taken_within None xs first (Some x) least i near = λ far. far
taken_within (Some reach) xs first (Some x) least i near = λ far. near (let l = least_low x xs least first i in omega arith)

-- ---- candidates

not_after : (d i e j : ℕ) (o : Ordering) → is_lt (ordering_then (nat_cmp e d) (ordering_then (nat_cmp j i) o)) ≡ false → (d < e) ⊎ ((d ≡ e) × (i ≤ j))
not_after d i e j o h = cases (nat_lt d e) refl
  where
    cases : (b : Bool) → nat_lt d e ≡ b → (d < e) ⊎ ((d ≡ e) × (i ≤ j))
    cases true t = inl (grind (arith, nat_tests))
    cases false t = let same : d ≡ e = grind (arith, nat_tests) in let low : i ≤ j = grind (arith, nat_tests) in inr (same, low)

is_first : (x : Candidate) (xs : List Candidate) → IsLeast candidate_order x xs → IsFirst x xs
is_first x xs least y i = not_after x.dist x.id y.dist y.id (nat_cmp y.tag x.tag) (least.least y i)

pub taken_first : (xs : List Candidate) (taken : Option Candidate) → IfSome taken (λ x. IsLeast candidate_order x xs) → IfSome taken (λ x. IsFirst x xs)
taken_first xs None least = tt
taken_first xs (Some x) least = is_first x xs least
