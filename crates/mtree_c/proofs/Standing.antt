-- Points of one length that stand one after another.
use Rattle.std.proofs.Common.{◌≡◌, ℕ, zero, suc, ◌+◌, ◌*◌, ◌<◌, ◌≤◌, List, [], ◌∷◌, ◌++◌, length, take, drop, get_or, refl, ◌∙◌, ap, arith}
use Rattle.std.specs.Prelude.{Contains}
use Rattle.std.proofs.Math.Nat.{suc-mul, zero-mul, mul-le-mul_right}
use Rattle.std.proofs.lemmas.List.{drop-drop, get_or_default, take_more}
use Rattle.metric_laws.specs.Rows.{rows_of}

pub length-rows_of : (w n : ℕ) (cells : List ℕ) → length (rows_of w n cells) ≡ n
length-rows_of w zero cells = refl
length-rows_of w (suc n) cells = ap suc (length-rows_of w n (drop w cells))

-- a row stands within the numbers
pub row_room : (w n i size : ℕ) → size ≡ n * w → i < n → i * w + w ≤ size
row_room w n i size is lt =
    let most : suc i * w ≤ n * w = mul-le-mul_right w (omega arith) in
    omega (arith, suc-mul i w)

at_row : (w n i : ℕ) (cells : List ℕ) → i < n → get_or (rows_of w n cells) i [] ≡ take w (drop (i * w) cells)
at_row w zero i cells lt = absurd (omega arith)
at_row w (suc n) zero cells lt = rw (zero-mul w) refl
at_row w (suc n) (suc i) cells lt =
    let same : w + i * w ≡ suc i * w = omega (arith, suc-mul i w) in
    at_row w n i (drop w cells) (omega arith) ∙ ap (λ (l : List ℕ). take w l) (drop-drop (i * w) w cells) ∙ ap (λ (k : ℕ). take w (drop k cells)) same

-- the rows before the next one, and that one
pub one_row_more : (w n i : ℕ) (cells : List ℕ) → i < n → take (i + 1) (rows_of w n cells) ≡ take i (rows_of w n cells) ++ take w (drop (i * w) cells) ∷ []
one_row_more w n i cells lt =
    let within : i < length (rows_of w n cells) = omega (arith, length-rows_of w n cells) in
    take_more (rows_of w n cells) i [] within ∙ ap (λ (p : List ℕ). take i (rows_of w n cells) ++ p ∷ []) (at_row w n i cells lt)

pub row_stands : (w n i : ℕ) (cells : List ℕ) → i < n → Contains (rows_of w n cells) (take w (drop (i * w) cells))
row_stands w n i cells lt =
    let rows = rows_of w n cells in
    let p = take w (drop (i * w) cells) in
    let within : i < length rows = omega (arith, length-rows_of w n cells) in
    (i, within, get_or_default rows i p [] within ∙ at_row w n i cells lt)
