-- A list with its first elements changed, one after another.
use Rattle.std.proofs.Common.{◌≡◌, ℕ, zero, suc, ◌+◌, ◌<◌, List, [], ◌∷◌, ◌++◌, length, take, drop, get_or, slice_set, refl, ◌∙◌, ap, arith}
use Rattle.std.specs.Prelude.{map}

-- the first i elements are changed
abbrev pub changed : {X : Type 0} → (X → X) → ℕ → List X → List X
changed f i xs = map f (take i xs) ++ drop i xs

changed_next : {X : Type 0} (f : X → X) (xs : List X) (i : ℕ) (d : X) → i < length xs →
    slice_set (changed f i xs) i (f (get_or (changed f i xs) i d)) ≡ changed f (suc i) xs
changed_next f [] i d low = absurd (omega arith)
changed_next f (x ∷ xs) zero d low = refl
changed_next f (x ∷ xs) (suc i) d low = ap (λ ys. f x ∷ ys) (changed_next f xs i d (omega arith))

-- one element more
pub changed_more : {X : Type 0} (f : X → X) (xs ys : List X) (i : ℕ) (d new : X) → i < length xs → ys ≡ changed f i xs → new ≡ f (get_or ys i d) →
    slice_set ys i new ≡ changed f (i + 1) xs
changed_more f xs ys i d new low so_far is =
    let next : suc i ≡ i + 1 = omega arith in
    ap (slice_set ys i) is ∙ ap (λ zs. slice_set zs i (f (get_or zs i d))) so_far ∙ changed_next f xs i d low ∙ ap (λ (k : ℕ). changed f k xs) next
