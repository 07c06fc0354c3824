-- The three distances are metrics.
use Rattle.std.specs.Prelude.{◌≡◌, ℕ, ◌≤◌, ◌<◌, ◌^◌, ◌==◌, true, not, List, [], ◌∷◌, length, min, All, IsTrue, cond, nat_lt}
use Rattle.std.specs.List.{list_all}
use Rattle.std.proofs.Common.{arith, ap, sym, ◌∙◌}
use Rattle.std.proofs.lemmas.Bool.{and_parts, eqb-true, ltb-true}
use Rattle.std.proofs.lemmas.Bool.Decides.{nat_tests}
use Rattle.std.proofs.lemmas.List.Sums.{AllPass-from_list_all}
use Rattle.metric_laws.specs.Space.{IsSpace, bound}
use Rattle.metric_laws.specs.Pruning.{gap}
use Rattle.vector_kinds.specs.Vectors.{is_vector, hamming_distance, l1_distance, max_distance, vector_space}
use Rattle.vector_kinds.specs.Totals.{IsPlaceDistance, total, total_is, total_symmetric, total_same, total_apart, total_triangle}
use Rattle.vector_kinds.specs.Spreads.{max_symmetric, max_same, max_apart, max_triangle}

-- 1 for two different numbers
abbrev pub differs : ℕ → ℕ → ℕ
differs x y = cond (not (x == y)) 1 0

pub differs_is : IsPlaceDistance differs
differs_is = record {
  symmetric = λ x y. grind (arith, nat_tests);
  same = λ x. grind (arith, nat_tests);
  apart = λ x y none. grind (arith, nat_tests);
  triangle = λ x y z. grind (arith, nat_tests);
}

pub gap_is : IsPlaceDistance gap
gap_is = record {
  symmetric = λ x y. omega arith;
  same = λ x. omega arith;
  apart = λ x y none. omega arith;
  triangle = λ x y z. omega arith;
}

-- what a point is
pub vector_long : (dim : ℕ) (p : List ℕ) → IsTrue (is_vector dim p) → length p ≡ dim
vector_long dim p is_point = let parts = and_parts _ _ is_point in eqb-true (length p) dim parts.0

pub vector_small : (dim : ℕ) (p : List ℕ) → IsTrue (is_vector dim p) → All (λ x. x < 2 ^ 32) p
vector_small dim p is_point =
    let parts = and_parts _ _ is_point in
    λ k d within. ltb-true _ _ (AllPass-from_list_all (λ x. nat_lt x (2 ^ 32)) p parts.1 k d within)

max_bounded : (a b : List ℕ) → list_all (λ x. nat_lt x (2 ^ 32)) a ≡ true → list_all (λ x. nat_lt x (2 ^ 32)) b ≡ true → max_distance a b ≤ 2 ^ 32
max_bounded [] b first second = omega arith
max_bounded (x ∷ a) [] first second = omega arith
max_bounded (x ∷ a) (y ∷ b) first second =
    let left = and_parts (nat_lt x (2 ^ 32)) (list_all (λ v. nat_lt v (2 ^ 32)) a) first in
    let right = and_parts (nat_lt y (2 ^ 32)) (list_all (λ v. nat_lt v (2 ^ 32)) b) second in
    omega (arith, ltb-true x (2 ^ 32) left.0, ltb-true y (2 ^ 32) right.0, max_bounded a b left.1 right.1)

hamming_is : (a b : List ℕ) → hamming_distance a b ≡ min (total differs a b) bound
hamming_is a b = ap (λ n. min n bound) (total_is differs a b)

l1_is : (a b : List ℕ) → l1_distance a b ≡ min (total gap a b) bound
l1_is a b = ap (λ n. min n bound) (total_is gap a b)

pub hamming_axioms : (dim : ℕ) → 1 ≤ dim → dim ≤ 64 → IsSpace (vector_space 1 dim)
hamming_axioms dim some few = record {
  some_coordinates = some;
  few_coordinates = few;
  long = vector_long dim;
  small = vector_small dim;
  symmetric = λ a b fa fb. omega (arith, hamming_is a b, hamming_is b a, total_symmetric differs differs_is a b);
  zero_same = λ a fa. omega (arith, hamming_is a a, total_same differs differs_is a);
  same_zero = λ a b fa fb none.
      total_apart differs differs_is a b (vector_long dim a fa ∙ sym (vector_long dim b fb)) (omega (arith, hamming_is a b));
  triangle = λ a b c fa fb fc.
      omega (
        arith,
        hamming_is a c,
        hamming_is a b,
        hamming_is b c,
        total_triangle differs differs_is a b c (vector_long dim a fa ∙ sym (vector_long dim b fb)) (vector_long dim b fb ∙ sym (vector_long dim c fc)),
      );
  bounded = λ a b fa fb. omega arith;
}

pub l1_axioms : (dim : ℕ) → 1 ≤ dim → dim ≤ 64 → IsSpace (vector_space 2 dim)
l1_axioms dim some few = record {
  some_coordinates = some;
  few_coordinates = few;
  long = vector_long dim;
  small = vector_small dim;
  symmetric = λ a b fa fb. omega (arith, l1_is a b, l1_is b a, total_symmetric gap gap_is a b);
  zero_same = λ a fa. omega (arith, l1_is a a, total_same gap gap_is a);
  same_zero = λ a b fa fb none.
      total_apart gap gap_is a b (vector_long dim a fa ∙ sym (vector_long dim b fb)) (omega (arith, l1_is a b));
  triangle = λ a b c fa fb fc.
      omega (
        arith,
        l1_is a c,
        l1_is a b,
        l1_is b c,
        total_triangle gap gap_is a b c (vector_long dim a fa ∙ sym (vector_long dim b fb)) (vector_long dim b fb ∙ sym (vector_long dim c fc)),
      );
  bounded = λ a b fa fb. omega arith;
}

pub max_axioms : (dim : ℕ) → 1 ≤ dim → dim ≤ 64 → IsSpace (vector_space 3 dim)
max_axioms dim some few = record {
  some_coordinates = some;
  few_coordinates = few;
  long = vector_long dim;
  small = vector_small dim;
  symmetric = λ a b fa fb. max_symmetric a b;
  zero_same = λ a fa. max_same a;
  same_zero = λ a b fa fb none. max_apart a b (vector_long dim a fa ∙ sym (vector_long dim b fb)) none;
  triangle = λ a b c fa fb fc.
      max_triangle a b c (vector_long dim a fa ∙ sym (vector_long dim b fb)) (vector_long dim b fb ∙ sym (vector_long dim c fc));
  bounded = λ a b fa fb.
      omega (arith, max_bounded a b (and_parts _ _ fa).1 (and_parts _ _ fb).1);
}
