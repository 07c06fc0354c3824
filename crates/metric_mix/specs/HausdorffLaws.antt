-- Hausdorff's distance is a metric of sets.
use Rattle.std.specs.Prelude.{◌≡◌, ℕ, ◌+◌, ◌-◌, ◌≤◌, ◌^◌, true, List, [], ◌∷◌, length, refl, IsTrue}
use Rattle.std.proofs.Common.{arith, ap, sym, ◌∙◌, inl, inr}
use Rattle.std.proofs.lemmas.Bool.{and_parts, cases_order}
use Rattle.metric_laws.specs.Lists.{IsIn}
use Rattle.metric_laws.specs.Space.{IsSpace}
use Rattle.metric_laws.specs.Pruning.{gap}
use Rattle.vector_kinds.specs.Vectors.{is_vector}
use Rattle.vector_kinds.specs.VectorLaws.{vector_long, vector_small}
use Rattle.metric_mix.specs.Sets.{is_spelled, is_set, nearest, farthest, hausdorff_space}
use Rattle.metric_mix.specs.Spellings.{one_spelling}

pub nearest_low : (x : ℕ) (b : List ℕ) → nearest x b ≤ 2 ^ 32 - 1
nearest_low x [] = omega arith
nearest_low x (y ∷ b) = omega (arith, nearest_low x b)

farthest_low : (a b : List ℕ) → farthest a b ≤ 2 ^ 32 - 1
farthest_low [] b = omega arith
farthest_low (x ∷ a) b = omega (arith, nearest_low x b, farthest_low a b)

-- a number is nearest to itself, and to no other number it is as near
nearest_there : (x : ℕ) (b : List ℕ) → IsIn x b → nearest x b ≡ 0
nearest_there x [] there = absurd there
nearest_there x (y ∷ b) there =
    elim there [ inl same ↦ omega arith | inr deeper ↦ (let none = nearest_there x b deeper in omega arith) ]

there_by_nearest : (x : ℕ) (b : List ℕ) → nearest x b ≡ 0 → IsIn x b
there_by_nearest x [] none = absurd (omega arith)
there_by_nearest x (y ∷ b) none =
    elim (cases_order x y) [ inl same ↦ inl same | inr either ↦ inr (there_by_nearest x b (omega arith)) ]

farthest_within : (a b : List ℕ) → ((z : ℕ) → IsIn z a → IsIn z b) → farthest a b ≡ 0
farthest_within [] b within = refl
farthest_within (x ∷ a) b within =
    omega (arith, nearest_there x b (within x (inl refl)), farthest_within a b (λ z there. within z (inr there)))

within_by_farthest : (a b : List ℕ) → farthest a b ≡ 0 → (z : ℕ) → IsIn z a → IsIn z b
within_by_farthest [] b none z there = absurd there
within_by_farthest (x ∷ a) b none z there =
    elim there [
      | inl same ↦ there_by_nearest z b (z_near z same)
      | inr deeper ↦ within_by_farthest a b (omega arith) z deeper
    ]
  where
    z_near : (z : ℕ) → z ≡ x → nearest z b ≡ 0
    z_near z same = (let e : nearest z b ≡ nearest x b = ap (λ (u : ℕ). nearest u b) same in let here : nearest x b ≡ 0 = omega arith in e ∙ here)

-- over one step, over a list, and from a list
nearest_step : (x y : ℕ) (c : List ℕ) → nearest x c ≤ gap x y + nearest y c
nearest_step x y [] = omega arith
nearest_step x y (z ∷ c) = omega (arith, nearest_step x y c)

nearest_over : (x : ℕ) (b c : List ℕ) → nearest x c ≤ nearest x b + farthest b c
nearest_over x [] c = omega (arith, nearest_low x c)
nearest_over x (y ∷ b) c = omega (arith, nearest_step x y c, nearest_over x b c)

farthest_over : (a b c : List ℕ) → farthest a c ≤ farthest a b + farthest b c
farthest_over [] b c = omega arith
farthest_over (x ∷ a) b c = omega (arith, nearest_over x b c, farthest_over a b c)

set_long : (n : ℕ) (p : List ℕ) → IsTrue (is_set n p) → length p ≡ n
set_long n p is_point = vector_long n p (and_parts (is_vector n p) (is_spelled p) is_point).0

set_spelled : (n : ℕ) (p : List ℕ) → IsTrue (is_set n p) → is_spelled p ≡ true
set_spelled n p is_point = (and_parts (is_vector n p) (is_spelled p) is_point).1

pub hausdorff_axioms : (n : ℕ) → 1 ≤ n → n ≤ 64 → IsSpace (hausdorff_space n)
hausdorff_axioms n some few = record {
  some_coordinates = some;
  few_coordinates = few;
  long = set_long n;
  small = λ a fa. vector_small n a (and_parts (is_vector n a) (is_spelled a) fa).0;
  symmetric = λ a b fa fb. omega arith;
  zero_same = λ a fa. omega (arith, farthest_within a a (λ z there. there));
  same_zero = λ a b fa fb none.
      one_spelling a b (set_long n a fa ∙ sym (set_long n b fb)) (set_spelled n a fa) (set_spelled n b fb)
      (within_by_farthest a b (omega arith)) (within_by_farthest b a (omega arith));
  triangle = λ a b c fa fb fc. omega (arith, farthest_over a b c, farthest_over c b a);
  bounded = λ a b fa fb. omega (arith, farthest_low a b, farthest_low b a);
}
