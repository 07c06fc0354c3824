-- Points of one length, kept one after another.
use Rattle.std.proofs.Common.{◌≡◌, ℕ, zero, suc, ◌+◌, ◌*◌, ◌<◌, ◌≤◌, List, [], ◌∷◌, ◌++◌, length, take, drop, get_or, refl, sym, ◌∙◌, ap, arith, length-drop, add-one}
use Rattle.std.proofs.Math.Nat.{suc-mul, zero-mul, mul-le-mul_right}
use Rattle.std.proofs.lemmas.List.{take-append-le, drop-append-le, drop-drop, take_all}
use Rattle.metric_laws.specs.Rows.{Table, rows_of}

pub length-rows_of : (w n : ℕ) (cells : List ℕ) → length (rows_of w n cells) ≡ n
length-rows_of w zero cells = refl
length-rows_of w (suc n) cells = ap suc (length-rows_of w n (drop w cells))

-- a point that stands in a list of points
pub row_room : (w n i len : ℕ) → n * w ≡ len → i < n → i * w + w ≤ len
row_room w n i len is lt =
    let most : suc i * w ≤ n * w = mul-le-mul_right w (omega arith) in
    omega (arith, suc-mul i w)

pub get_or-rows_of : (w n i : ℕ) (cells : List ℕ) → i < n → get_or (rows_of w n cells) i [] ≡ take w (drop (i * w) cells)
get_or-rows_of w zero i cells lt = absurd (omega arith)
get_or-rows_of w (suc n) zero cells lt = rw (zero-mul w) refl
get_or-rows_of w (suc n) (suc i) cells lt =
    let same : w + i * w ≡ suc i * w = omega (arith, suc-mul i w) in
    get_or-rows_of w n i (drop w cells) (omega arith) ∙ ap (λ (l : List ℕ). take w l) (drop-drop (i * w) w cells) ∙ ap (λ (k : ℕ). take w (drop k cells)) same

pub rows_of_push : (w n : ℕ) (cells p : List ℕ) → n * w ≡ length cells → length p ≡ w → rows_of w (suc n) (cells ++ p) ≡ rows_of w n cells ++ p ∷ []
rows_of_push w zero [] p is wide = ap (λ (l : List ℕ). l ∷ []) (take_all w p (omega arith))
rows_of_push w zero (c ∷ cells) p is wide = absurd (omega arith)
rows_of_push w (suc n) cells p is wide =
    let room : w ≤ length cells = omega (arith, suc-mul n w) in
    let left : n * w ≡ length (drop w cells) = omega (arith, suc-mul n w, length-drop w cells) in
    rw (take-append-le w cells p room, drop-append-le w cells p room) (ap (λ (l : List (List ℕ)). take w cells ∷ l) (rows_of_push w n (drop w cells) p left wide))

-- the list of points after one more
pub table_push : (w n m : ℕ) (cells more p : List ℕ) (t : Table) →
    w ≡ t.dimension → rows_of w n cells ≡ t.points → n * w ≡ length cells → length p ≡ t.dimension → m ≡ n + 1 → more ≡ cells ++ p →
    rows_of w m more ≡ t.points ++ p ∷ []
table_push w n m cells more p t wide points is is_point one grown =
    let next : m ≡ suc n = one ∙ add-one n in
    ap (λ (k : ℕ). rows_of w k more) next ∙ ap (λ (l : List ℕ). rows_of w (suc n) l) grown ∙ rows_of_push w n cells p is (is_point ∙ sym wide) ∙ ap (λ (l : List (List ℕ)). l ++ p ∷ []) points
