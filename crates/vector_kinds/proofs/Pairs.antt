-- A sum over the pairs of two lists, from a place on.
use Rattle.std.proofs.Common.{◌≡◌, ◌≤◌, ◌<◌, ℕ, zero, suc, ◌+◌, min, List, [], ◌∷◌, length, get_or, drop, refl, arith, add-one}
use Rattle.std.specs.Prelude.{sum_by}
use Rattle.std.specs.List.{zip}
use Rattle.std.proofs.lemmas.List.Sums.{sum_by-cons}

sum_at : (f : ℕ × ℕ → ℕ) (i : ℕ) (a b : List ℕ) → i < length a → i < length b →
    sum_by f (zip (drop i a) (drop i b)) ≡ f (get_or a i 0, get_or b i 0) + sum_by f (zip (drop (suc i) a) (drop (suc i) b))
sum_at f i [] b first second = absurd (omega arith)
sum_at f i (x ∷ a) [] first second = absurd (omega arith)
sum_at f zero (x ∷ a) (y ∷ b) first second = sum_by-cons f (x, y) (zip a b)
sum_at f (suc i) (x ∷ a) (y ∷ b) first second = sum_at f i a b (omega arith) (omega arith)

pub sum_more : (f : ℕ × ℕ → ℕ) (i : ℕ) (a b : List ℕ) → i < length a → i < length b →
    sum_by f (zip (drop i a) (drop i b)) ≡ f (get_or a i 0, get_or b i 0) + sum_by f (zip (drop (i + 1) a) (drop (i + 1) b))
sum_more f i a b first second = rw (add-one i) (sum_at f i a b first second)

pub sum_end : (f : ℕ × ℕ → ℕ) (i : ℕ) (a b : List ℕ) → min (length a) (length b) ≤ i → sum_by f (zip (drop i a) (drop i b)) ≡ 0
sum_end f zero [] b past = refl
sum_end f (suc i) [] b past = refl
sum_end f zero (x ∷ a) [] past = refl
sum_end f (suc i) (x ∷ a) [] past = ended f (drop i a)
  where
    ended : (f : ℕ × ℕ → ℕ) (l : List ℕ) → sum_by f (zip l []) ≡ 0
    ended f [] = refl
    ended f (x ∷ l) = refl
sum_end f zero (x ∷ a) (y ∷ b) past = absurd (omega arith)
sum_end f (suc i) (x ∷ a) (y ∷ b) past = sum_end f i a b (omega arith)
