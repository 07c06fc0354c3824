-- What a queue holds, and its least.
use Rattle.std.proofs.Common.{◌≡◌, get_or, ℕ, zero, suc, ◌<◌, inl, inr, false, List, [], ◌∷◌, sym, ap, arith, length}
use Rattle.std.specs.Prelude.{map, IsPermutation}
use Rattle.std.specs.Ordering.{is_lt}
use Rattle.std.specs.declared.cmp.Ordering.{Ordering}
use Rattle.std.specs.declared.cmp.Reverse.{Reverse}
use Rattle.std.specs.BinaryHeap.{IsUpperBound}
use Rattle.std.proofs.lemmas.List.Sorted.{IsPermutation-map}
use Rattle.metric_laws.specs.Lists.{IsIn}
use Rattle.nearest_search.specs.Least.{IsLeast}

-- what a heap holds
abbrev pub held : {X : Type 0} → List (Reverse X) → List X
held xs = map (λ r. r.0) xs

pub held-pushed : {X : Type 0} (x : Reverse X) (xs ys : List (Reverse X)) → IsPermutation (x ∷ xs) ys → IsPermutation (x.0 ∷ held xs) (held ys)
held-pushed x xs ys pushed = IsPermutation-map (λ r. r.0) (x ∷ xs) ys pushed

pub held-popped : {X : Type 0} (x : Reverse X) (xs ys : List (Reverse X)) → IsPermutation xs (x ∷ ys) → IsPermutation (held xs) (x.0 ∷ held ys)
held-popped x xs ys popped = IsPermutation-map (λ r. r.0) xs (x ∷ ys) popped

pub held-at : {X : Type 0} (xs : List (Reverse X)) (k : ℕ) (x : Reverse X) → k < length xs → get_or xs k x ≡ x → IsIn x.0 (held xs)
held-at [] k x low is = absurd (omega arith)
held-at (y ∷ ys) zero x low is = inl (sym (ap (λ r. r.0) is))
held-at (y ∷ ys) (suc k) x low is = inr (held-at ys k x (omega arith) is)

none_before : {X : Type 0} (order : X → X → Ordering) (top : Reverse X) (xs : List (Reverse X)) → IsUpperBound (λ x y. order y.0 x.0) top xs → (y : X) → IsIn y (held xs) → is_lt (order y top.0) ≡ false
none_before order top [] up y i = absurd i
none_before order top (x ∷ xs) up y i = elim i [ inl e ↦ rw e up.0 | inr w ↦ none_before order top xs up.1 y w ]

pub is_least : {X : Type 0} (order : X → X → Ordering) (top : Reverse X) (xs : List (Reverse X)) → IsUpperBound (λ x y. order y.0 x.0) top xs → 0 < length xs → get_or xs 0 top ≡ top → IsLeast order top.0 (held xs)
is_least order top xs up some is = record { among = held-at xs 0 top some is; least = none_before order top xs up }
