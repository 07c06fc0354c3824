-- The rows of a table.
use Rattle.std.proofs.Common.{◌≡◌, ℕ, zero, suc, ◌+◌, ◌-◌, ◌*◌, ◌<◌, List, [], ◌∷◌, ◌++◌, refl, ap, ◌∙◌, arith, length, map, get_or, take, drop}
use Rattle.std.specs.List.{flat_map}
use Rattle.metric_laws.proofs.Published.{length_map}
use Rattle.metric_laws.specs.Space.{Space}
use Rattle.tree_growth.specs.Dealing.{Ball, row, table_of, point_at}

pub drop_append : {X : Type 0} (xs ys : List X) (k : ℕ) → drop (length xs + k) (xs ++ ys) ≡ drop k ys
drop_append [] ys k = let e : 0 + k ≡ k = omega arith in rw e refl
drop_append (x ∷ xs) ys k = let e : suc (length xs) + k ≡ suc (length xs + k) = omega arith in rw e (drop_append xs ys k)

pub take_append : {X : Type 0} (xs ys : List X) → take (length xs) (xs ++ ys) ≡ xs
take_append [] ys = refl
take_append (x ∷ xs) ys = ap (λ r. x ∷ r) (take_append xs ys)

-- one of the lists of equal length that stand in a row
pub nth_row : {X Y : Type 0} (f : X → List Y) (n : ℕ) (xs : List X) (i : ℕ) (z : X) → ((x : X) → length (f x) ≡ n) → i < length xs → take n (drop (i * n) (flat_map f xs)) ≡ f (get_or xs i z)
nth_row f n [] i z long low = absurd (omega arith)
nth_row f n (x ∷ xs) zero z long low =
    let e : 0 * n ≡ 0 = omega arith in rw (e, ← long x) (take_append (f x) (flat_map f xs))
nth_row f n (x ∷ xs) (suc i) z long low =
    let l = long x in
    let e : suc i * n ≡ length (f x) + i * n = grind arith in
    rw e (ap (take n) (drop_append (f x) (flat_map f xs) (i * n)) ∙ nth_row f n xs i z long (omega arith))

pub row_of_table : (s : Space) (bs : List Ball) (p : ℕ) → p < length bs → row (table_of s bs) p ≡ map (λ q. s.dist q.0 (point_at bs p)) bs
row_of_table s bs p low =
    let n : length (map (λ (b : Ball). b.1) bs) ≡ length bs = length_map (λ (b : Ball). b.1) bs in
    let e : p * length (map (λ (b : Ball). b.1) bs) + length (map (λ (b : Ball). b.1) bs) - p * length (map (λ (b : Ball). b.1) bs) ≡ length bs = omega arith in
    rw e (rw n (nth_row (λ (c : Ball). map (λ (q : Ball). s.dist q.0 c.0) bs) (length bs) bs p ([], 0) (λ c. length_map (λ (q : Ball). s.dist q.0 c.0) bs) low))
