-- What the passes over two lists have made at the end.
use Rattle.std.proofs.Common.{◌≡◌, ℕ, ◌+◌, min, max, List, [], ◌∷◌, refl, sym, ◌∙◌, ap, arith}
use Rattle.std.specs.Prelude.{fold, sum_by}
use Rattle.std.specs.List.{zip}
use Rattle.std.proofs.Math.Nat.{zero-min}
use Rattle.metric_laws.specs.Pruning.{gap}
use Rattle.vector_kinds.specs.Vectors.{max_distance}

-- a sum that stops at a limit
limited_is : (limit start : ℕ) (pairs : List (ℕ × ℕ)) →
    fold (λ total p. min (total + gap p.0 p.1) limit) (min start limit) pairs ≡ min (fold (λ total p. total + gap p.0 p.1) start pairs) limit
limited_is limit start [] = refl
limited_is limit start (p ∷ pairs) =
    let step : min (min start limit + gap p.0 p.1) limit ≡ min (start + gap p.0 p.1) limit = omega arith in
    ap (λ (n : ℕ). fold (λ total q. min (total + gap q.0 q.1) limit) n pairs) step ∙ limited_is limit (start + gap p.0 p.1) pairs

pub limited_sum : (limit : ℕ) (pairs : List (ℕ × ℕ)) →
    fold (λ total p. min (total + gap p.0 p.1) limit) 0 pairs ≡ min (sum_by (λ p. gap p.0 p.1) pairs) limit
limited_sum limit pairs =
    ap (λ (n : ℕ). fold (λ total p. min (total + gap p.0 p.1) limit) n pairs) (sym (zero-min limit)) ∙ limited_is limit 0 pairs

-- a running greatest value
greatest_is : (start : ℕ) (a b : List ℕ) → fold (λ most p. max most (gap p.0 p.1)) start (zip a b) ≡ max start (max_distance a b)
greatest_is start [] b = omega arith
greatest_is start (x ∷ a) [] = omega arith
greatest_is start (x ∷ a) (y ∷ b) = omega (arith, greatest_is (max start (gap x y)) a b)

pub greatest_gap : (a b : List ℕ) → fold (λ most p. max most (gap p.0 p.1)) 0 (zip a b) ≡ max_distance a b
greatest_gap a b = omega (arith, greatest_is 0 a b)
