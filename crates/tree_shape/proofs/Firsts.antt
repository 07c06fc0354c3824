-- Lists of f 0, f 1 and so on.
use Rattle.std.proofs.Common.{◌≡◌, inl, inr, ℕ, zero, suc, ◌+◌, ◌*◌, ◌<◌, ◌≤◌, List, [], ◌∷◌, ◌++◌, length, take, get_or, refl, sym, ◌∙◌, ap, arith, length-append, mul-le-mul_left}
use Rattle.std.proofs.lemmas.Bool.{cases_lt}
use Rattle.std.proofs.lemmas.List.{ext_get_or, length-take-le, get_or-take, get_or_append_left, get_or-append-add}
use Rattle.tree_shape.specs.Flat.{firsts}

-- one more
pub firsts_more : {E : Type 0} (f : ℕ → E) (n : ℕ) → firsts f (n + 1) ≡ firsts f n ++ f n ∷ []
unfolding firsts
firsts_more f n = ap (firsts f) (let e : n + 1 ≡ suc n = omega arith in e)

pub firsts_none : {E : Type 0} (f : ℕ → E) → firsts f 0 ≡ []
unfolding firsts
firsts_none f = refl

pub length-firsts : {E : Type 0} (f : ℕ → E) (n : ℕ) → length (firsts f n) ≡ n
unfolding firsts
length-firsts f zero = refl
length-firsts f (suc n) = length-append (firsts f n) (f n ∷ []) ∙ omega (arith, length-firsts f n)

pub place-firsts : {E : Type 0} (f : ℕ → E) (n k : ℕ) (d : E) → k < n → get_or (firsts f n) k d ≡ f k
unfolding firsts
place-firsts f zero k d below = absurd (let e : ⊥ = omega arith in e)
place-firsts f (suc n) k d below = elim (cases_lt k n) [
  | inl lt ↦ get_or_append_left (firsts f n) (f n ∷ []) d k (omega (arith, length-firsts f n)) ∙ place-firsts f n k d lt
  | inr le ↦
      (let e : k ≡ length (firsts f n) + 0 = omega (arith, length-firsts f n) in
      let last : n ≡ k = omega arith in
      ap (λ (m : ℕ). get_or (firsts f n ++ f n ∷ []) m d) e ∙ get_or-append-add (firsts f n) (f n ∷ []) 0 d ∙ ap f last)
]

-- the front of a list whose places are known
pub firsts_by : (f : ℕ → ℕ) (n : ℕ) (xs : List ℕ) → n ≤ length xs → ((k : ℕ) → k < n → get_or xs k 0 ≡ f k) → take n xs ≡ firsts f n
firsts_by f n xs within places =
    ext_get_or 0 (take n xs) (firsts f n) (length-take-le n xs within ∙ sym (length-firsts f n)) (λ k below. same k (omega (arith, below, length-take-le n xs within)))
  where
    same : (k : ℕ) → k < n → get_or (take n xs) k 0 ≡ get_or (firsts f n) k 0
    same k below = get_or-take n xs k 0 below ∙ places k below ∙ sym (place-firsts f n k 0 below)

-- lists whose functions agree below n
pub firsts_same : {E : Type 0} (f g : ℕ → E) (n : ℕ) → ((k : ℕ) → k < n → f k ≡ g k) → firsts f n ≡ firsts g n
unfolding firsts
firsts_same f g zero same = refl
firsts_same f g (suc n) same =
    ap (λ (es : List _). es ++ f n ∷ []) (firsts_same f g n (λ k below. same k (omega arith)))
    ∙ ap (λ (e : _). firsts g n ++ e ∷ []) (same n (omega arith))

-- the places of the entries
pub entry_place : (width i count long : ℕ) → long ≡ width * count → i < count → width * (i + 1) ≤ long
entry_place width i count long whole below = let le = mul-le-mul_left width (let e : i + 1 ≤ count = omega arith in e) in omega (arith, whole, le)
