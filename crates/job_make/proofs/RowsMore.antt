-- One coordinate and one row more.
use Rattle.std.proofs.Common.{◌≡◌, ◌≢◌, ℕ, ◌+◌, ◌%◌, ◌==◌, ◌≤◌, ◌^◌, true, List, [], ◌∷◌, ◌++◌, refl, sym, ◌∙◌, ap, arith, length}
use Rattle.std.specs.Prelude.{All, IsTrue, map, nat_lt}
use Rattle.std.specs.List.{list_all, range_with_len}
use Rattle.std.proofs.lemmas.Bool.Decides.{nat_tests}
use Rattle.std.proofs.lemmas.List.Sums.{list_all-from_AllPass}
use Rattle.vector_kinds.specs.Vectors.{is_vector}
use Rattle.metric_mix.specs.MixSpaces.{VectorsFit}
use Rattle.node_page.specs.declared.head.Head.{Head}
use Rattle.node_page.specs.Heads.{IsValidHead}
use Rattle.job_files.proofs.Published.{space_by_head}
use Rattle.job_files.specs.Spaces.{space_of}
use Rattle.std.proofs.lemmas.List.FromFn.{get_or-map-range_with_len, length-map-range_with_len, map-range_with_len_more}
use Rattle.job_make.specs.Generator.{coordinate, generated_row, generated_rows}

pub coordinate_more : (seed dim i : ℕ) → generated_row seed (dim + 1) i ≡ generated_row seed dim i ++ coordinate seed i dim ∷ []
coordinate_more seed dim i = map-range_with_len_more (coordinate seed i) 0 dim dim (omega arith)

pub row_more : (seed dim count : ℕ) → generated_rows seed dim (count + 1) ≡ generated_rows seed dim count ++ generated_row seed dim count ∷ []
row_more seed dim count = map-range_with_len_more (generated_row seed dim) 0 count count (omega arith)

pub row_length : (seed dim i : ℕ) → length (generated_row seed dim i) ≡ dim
row_length seed dim i = length-map-range_with_len (coordinate seed i) 0 dim

pub number_more : (n : ℕ) → range_with_len 0 (n + 1) ≡ range_with_len 0 n ++ n ∷ []
number_more n = sym (mapped (range_with_len 0 (n + 1))) ∙ map-range_with_len_more (λ (k : ℕ). k) 0 n n (omega arith) ∙ ap (λ (l : List ℕ). l ++ n ∷ []) (mapped (range_with_len 0 n))
  where
    mapped : (xs : List ℕ) → map (λ k. k) xs ≡ xs
    mapped [] = refl
    mapped (x ∷ xs) = ap (λ (l : List ℕ). x ∷ l) (mapped xs)

-- ---- the rows are points

low_number : (n : ℕ) → nat_lt (n % 65536) (2 ^ 32) ≡ true
low_number n = grind (arith, nat_tests)

same_test : (a b : ℕ) → a ≡ b → (a == b) ≡ true
same_test a b is = grind (arith, nat_tests)

row_is_vector : (seed dim i : ℕ) → IsTrue (is_vector dim (generated_row seed dim i))
row_is_vector seed dim i = rw (same_test (length (generated_row seed dim i)) dim (row_length seed dim i), each) refl
  where
    each : list_all (λ x. nat_lt x (2 ^ 32)) (generated_row seed dim i) ≡ true
    each = list_all-from_AllPass (λ x. nat_lt x (2 ^ 32)) (generated_row seed dim i) (λ k d lt.
        rw (get_or-map-range_with_len (coordinate seed i) 0 dim k k d (let l = row_length seed dim i in omega (arith, lt, l)) (omega arith)) (low_number _))

pub rows_fit : VectorsFit → (head : Head) → IsValidHead head → (head.kind ≢ 4) × (head.kind ≢ 5) → (seed count : ℕ) (points : List (List ℕ)) → points ≡ generated_rows seed head.dim count → All (λ p. IsTrue ((space_of head).is_point p)) points
rows_fit law head valid vectors seed count points is k d lt =
    let has = space_by_head head.kind head.dim valid.space in
    let there : k ≤ count = let n = length-map-range_with_len (generated_row seed head.dim) 0 count in let l = ap length is in omega (arith, lt, n, l) in
    law head.kind head.dim has.low_kind has.high_kind has.valid vectors.0 vectors.1 _
    (rw (is, get_or-map-range_with_len (generated_row seed head.dim) 0 count k k d (let n = length-map-range_with_len (generated_row seed head.dim) 0 count in let l = ap length is in omega (arith, lt, n, l)) (omega arith))
    (row_is_vector seed head.dim k))

pub rows_long : (seed dim count : ℕ) (points : List (List ℕ)) → points ≡ generated_rows seed dim count → length points ≡ count
rows_long seed dim count points is = ap length is ∙ length-map-range_with_len (generated_row seed dim) 0 count
