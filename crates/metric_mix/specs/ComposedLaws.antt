-- Composed spaces are spaces, by the axioms of their parts.
use Rattle.std.specs.Prelude.{◌≡◌, ℕ, ◌+◌, ◌≤◌, ◌<◌, ◌^◌, List, ◌++◌, take, drop, length, All, IsTrue}
use Rattle.std.proofs.Common.{arith, ap, sym, ◌∙◌, subst}
use Rattle.std.proofs.lemmas.Bool.{and_parts}
use Rattle.std.proofs.lemmas.List.{take-append-drop, length-append}
use Rattle.std.proofs.lemmas.List.Elements.{All-append}
use Rattle.metric_laws.specs.Space.{Space, IsSpace, bound}
use Rattle.metric_mix.specs.Composed.{capped_space, fits_both, joined_space}
use Rattle.metric_mix.specs.declared.joined.Joining.{Joining}
use Rattle.metric_mix.specs.declared.joined.Joining.TheVariants.{Sum, Most}

pub capped_axioms : (s : Space) (most : ℕ) → IsSpace s → 1 ≤ most → most ≤ bound → IsSpace (capped_space s most)
capped_axioms s most is some low = record {
  some_coordinates = is.some_coordinates;
  few_coordinates = is.few_coordinates;
  long = is.long;
  small = is.small;
  symmetric = λ a b fa fb. omega (arith, is.symmetric a b fa fb);
  zero_same = λ a fa. omega (arith, is.zero_same a fa);
  same_zero = λ a b fa fb none. is.same_zero a b fa fb (omega arith);
  triangle = λ a b c fa fb fc. omega (arith, is.triangle a b c fa fb fc);
  bounded = λ a b fa fb. omega arith;
}

front_fits : (s t : Space) (p : List ℕ) → IsTrue (fits_both s t p) → IsTrue (s.is_point (take s.dimension p))
front_fits s t p is_point = (and_parts (s.is_point (take s.dimension p)) (t.is_point (drop s.dimension p)) is_point).0

back_fits : (s t : Space) (p : List ℕ) → IsTrue (fits_both s t p) → IsTrue (t.is_point (drop s.dimension p))
back_fits s t p is_point = (and_parts (s.is_point (take s.dimension p)) (t.is_point (drop s.dimension p)) is_point).1

both_long : (s t : Space) → IsSpace s → IsSpace t → (p : List ℕ) → IsTrue (fits_both s t p) → length p ≡ s.dimension + t.dimension
both_long s t is it p is_point =
    let front = is.long (take s.dimension p) (front_fits s t p is_point) in
    let back = it.long (drop s.dimension p) (back_fits s t p is_point) in
    let whole = ap length (take-append-drop s.dimension p) in
    omega (arith, length-append (take s.dimension p) (drop s.dimension p))

both_small : (s t : Space) → IsSpace s → IsSpace t → (p : List ℕ) → IsTrue (fits_both s t p) → All (λ x. x < 2 ^ 32) p
both_small s t is it p is_point =
    subst (λ (l : List ℕ). All (λ x. x < 2 ^ 32) l) (take-append-drop s.dimension p)
    (All-append (λ x. x < 2 ^ 32) (take s.dimension p) (drop s.dimension p) (is.small _ (front_fits s t p is_point)) (it.small _ (back_fits s t p is_point)))

both_same : (n : ℕ) (a b : List ℕ) → take n a ≡ take n b → drop n a ≡ drop n b → a ≡ b
both_same n a b front back = sym (take-append-drop n a) ∙ (λ i. front i ++ back i) ∙ take-append-drop n b

sum_axioms : (s t : Space) → IsSpace s → IsSpace t → s.dimension + t.dimension ≤ 64 → IsSpace (joined_space Sum s t)
sum_axioms s t is it few = record {
  some_coordinates = omega (arith, is.some_coordinates);
  few_coordinates = few;
  long = both_long s t is it;
  small = both_small s t is it;
  symmetric = λ a b fa fb.
      omega (
        arith,
        is.symmetric (take s.dimension a) (take s.dimension b) (front_fits s t a fa) (front_fits s t b fb),
        it.symmetric (drop s.dimension a) (drop s.dimension b) (back_fits s t a fa) (back_fits s t b fb),
      );
  zero_same = λ a fa.
      omega (arith, is.zero_same (take s.dimension a) (front_fits s t a fa), it.zero_same (drop s.dimension a) (back_fits s t a fa));
  same_zero = λ a b fa fb none.
      both_same s.dimension a b
      (is.same_zero (take s.dimension a) (take s.dimension b) (front_fits s t a fa) (front_fits s t b fb) (omega arith))
      (it.same_zero (drop s.dimension a) (drop s.dimension b) (back_fits s t a fa) (back_fits s t b fb) (omega arith));
  triangle = λ a b c fa fb fc.
      omega (
        arith,
        is.triangle (take s.dimension a) (take s.dimension b) (take s.dimension c) (front_fits s t a fa) (front_fits s t b fb) (front_fits s t c fc),
        it.triangle (drop s.dimension a) (drop s.dimension b) (drop s.dimension c) (back_fits s t a fa) (back_fits s t b fb) (back_fits s t c fc),
      );
  bounded = λ a b fa fb. omega arith;
}

most_axioms : (s t : Space) → IsSpace s → IsSpace t → s.dimension + t.dimension ≤ 64 → IsSpace (joined_space Most s t)
most_axioms s t is it few = record {
  some_coordinates = omega (arith, is.some_coordinates);
  few_coordinates = few;
  long = both_long s t is it;
  small = both_small s t is it;
  symmetric = λ a b fa fb.
      omega (
        arith,
        is.symmetric (take s.dimension a) (take s.dimension b) (front_fits s t a fa) (front_fits s t b fb),
        it.symmetric (drop s.dimension a) (drop s.dimension b) (back_fits s t a fa) (back_fits s t b fb),
      );
  zero_same = λ a fa.
      omega (arith, is.zero_same (take s.dimension a) (front_fits s t a fa), it.zero_same (drop s.dimension a) (back_fits s t a fa));
  same_zero = λ a b fa fb none.
      both_same s.dimension a b
      (is.same_zero (take s.dimension a) (take s.dimension b) (front_fits s t a fa) (front_fits s t b fb) (omega arith))
      (it.same_zero (drop s.dimension a) (drop s.dimension b) (back_fits s t a fa) (back_fits s t b fb) (omega arith));
  triangle = λ a b c fa fb fc.
      omega (
        arith,
        is.triangle (take s.dimension a) (take s.dimension b) (take s.dimension c) (front_fits s t a fa) (front_fits s t b fb) (front_fits s t c fc),
        it.triangle (drop s.dimension a) (drop s.dimension b) (drop s.dimension c) (back_fits s t a fa) (back_fits s t b fb) (back_fits s t c fc),
      );
  bounded = λ a b fa fb.
      omega (
        arith,
        is.bounded (take s.dimension a) (take s.dimension b) (front_fits s t a fa) (front_fits s t b fb),
        it.bounded (drop s.dimension a) (drop s.dimension b) (back_fits s t a fa) (back_fits s t b fb),
      );
}

pub joined_axioms : (joining : Joining) (s t : Space) → IsSpace s → IsSpace t → s.dimension + t.dimension ≤ 64 → IsSpace (joined_space joining s t)
joined_axioms Sum s t is it few = sum_axioms s t is it few
joined_axioms Most s t is it few = most_axioms s t is it few
