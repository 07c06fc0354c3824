-- Each valid kind and dimension has a space, and most take every list of numbers of 32 bits.
use Rattle.std.specs.Prelude.{◌≡◌, ◌≢◌, ℕ, ◌+◌, ◌/◌, ◌%◌, ◌≤◌, ◌==◌, ◌&&◌, ◌^◌, ◌++◌, Bool, true, if◌then◌else◌, List, length, take, drop, refl, IsTrue, nat_le, nat_lt}
use Rattle.std.specs.List.{list_all}
use Rattle.std.proofs.Common.{arith, ap, sym, ◌∙◌, subst, inl, inr}
use Rattle.std.proofs.lemmas.Bool.{and_parts, and_from, cases_lt, eqb-true, eq-eqb, leb-true}
use Rattle.std.proofs.lemmas.List.{take-append-drop, length-take, length-drop}
use Rattle.std.proofs.lemmas.List.Folds.{list_all-append}
use Rattle.metric_laws.specs.Space.{Space, IsSpace}
use Rattle.vector_kinds.specs.Vectors.{is_vector, vector_space}
use Rattle.vector_kinds.specs.VectorLaws.{hamming_axioms, l1_axioms, max_axioms}
use Rattle.metric_mix.specs.Composed.{joined_space}
use Rattle.metric_mix.specs.declared.joined.Joining.TheVariants.{Sum, Most}
use Rattle.metric_mix.specs.ComposedLaws.{capped_axioms, joined_axioms}
use Rattle.metric_mix.specs.Permutations.{kendall_space}
use Rattle.metric_mix.specs.KendallLaws.{kendall_axioms}
use Rattle.metric_mix.specs.Sets.{hausdorff_space}
use Rattle.metric_mix.specs.HausdorffLaws.{hausdorff_axioms}
use Rattle.metric_mix.specs.MixSpaces.{has_halves, is_valid, mix_parts, mix_space, MixSpacesAreSpaces, VectorsFit}

-- a fact of each kind
eight : (P : ℕ → Type 0) → P 1 → P 2 → P 3 → P 4 → P 5 → P 6 → P 7 → P 8 → (kind : ℕ) → 1 ≤ kind → kind ≤ 8 → P kind
eight P p1 p2 p3 p4 p5 p6 p7 p8 kind low high =
    elim (cases_lt kind 2) [
      | inl a ↦ at 1 (omega arith) p1
      | inr b ↦
          elim (cases_lt kind 3) [
            | inl a ↦ at 2 (omega arith) p2
            | inr b ↦
                elim (cases_lt kind 4) [
                  | inl a ↦ at 3 (omega arith) p3
                  | inr b ↦
                      elim (cases_lt kind 5) [
                        | inl a ↦ at 4 (omega arith) p4
                        | inr b ↦
                            elim (cases_lt kind 6) [
                              | inl a ↦ at 5 (omega arith) p5
                              | inr b ↦
                                  elim (cases_lt kind 7) [
                                    | inl a ↦ at 6 (omega arith) p6
                                    | inr b ↦
                                        elim (cases_lt kind 8) [ inl a ↦ at 7 (omega arith) p7 | inr b ↦ at 8 (omega arith) p8 ]
                                  ]
                            ]
                      ]
                ]
          ]
    ]
  where
    at : (k : ℕ) → k ≡ kind → P k → P kind
    at k same here = subst P same here

-- a space whose number of coordinates is stated in another way
renamed : (s : Space) (dim : ℕ) → s.dimension ≡ dim → IsSpace s → IsSpace (record { dimension = dim; is_point = s.is_point; dist = s.dist })
renamed s dim same is = record {
  some_coordinates = omega (arith, is.some_coordinates);
  few_coordinates = omega (arith, is.few_coordinates);
  long = λ a fa. is.long a fa ∙ same;
  small = is.small;
  symmetric = is.symmetric;
  zero_same = is.zero_same;
  same_zero = is.same_zero;
  triangle = is.triangle;
  bounded = is.bounded;
}

valid_some : (kind dim : ℕ) → IsTrue (is_valid kind dim) → 1 ≤ dim
valid_some kind dim valid =
    let ranges = (and_parts (nat_le 1 dim && nat_le dim 64) (if has_halves kind then dim % 2 == 0 else true) valid).0 in
    leb-true 1 dim (and_parts (nat_le 1 dim) (nat_le dim 64) ranges).0

valid_few : (kind dim : ℕ) → IsTrue (is_valid kind dim) → dim ≤ 64
valid_few kind dim valid =
    let ranges = (and_parts (nat_le 1 dim && nat_le dim 64) (if has_halves kind then dim % 2 == 0 else true) valid).0 in
    leb-true dim 64 (and_parts (nat_le 1 dim) (nat_le dim 64) ranges).1

-- the dimension of a kind with halves is even
valid_even : (kind dim : ℕ) → has_halves kind ≡ true → IsTrue (is_valid kind dim) → dim / 2 + dim / 2 ≡ dim
valid_even kind dim halves valid =
    let tested : (if has_halves kind then dim % 2 == 0 else true) ≡ true =
    (and_parts (nat_le 1 dim && nat_le dim 64) (if has_halves kind then dim % 2 == 0 else true) valid).1 in
    let even : (dim % 2 == 0) ≡ true = sym (ap (λ (b : Bool). if b then dim % 2 == 0 else true) halves) ∙ tested in
    let none : dim % 2 ≡ 0 = eqb-true (dim % 2) 0 even in
    omega arith

half_sum : (dim : ℕ) → 1 ≤ dim → dim ≤ 64 → dim / 2 + dim / 2 ≡ dim → IsSpace (joined_space Sum (vector_space 2 (dim / 2)) (vector_space 1 (dim / 2)))
half_sum dim some few even =
    joined_axioms Sum (vector_space 2 (dim / 2)) (vector_space 1 (dim / 2))
    (l1_axioms (dim / 2) (omega arith) (omega arith)) (hamming_axioms (dim / 2) (omega arith) (omega arith)) (omega arith)

half_most : (dim : ℕ) → 1 ≤ dim → dim ≤ 64 → dim / 2 + dim / 2 ≡ dim → IsSpace (joined_space Most (vector_space 2 (dim / 2)) (vector_space 1 (dim / 2)))
half_most dim some few even =
    joined_axioms Most (vector_space 2 (dim / 2)) (vector_space 1 (dim / 2))
    (l1_axioms (dim / 2) (omega arith) (omega arith)) (hamming_axioms (dim / 2) (omega arith) (omega arith)) (omega arith)

pub valid_axioms : MixSpacesAreSpaces
valid_axioms kind dim low high valid =
    eight (λ k. IsTrue (is_valid k dim) → IsSpace (mix_space k dim))
    (λ l. renamed (vector_space 1 dim) dim refl (hamming_axioms dim (valid_some 1 dim l) (valid_few 1 dim l)))
    (λ l. renamed (vector_space 2 dim) dim refl (l1_axioms dim (valid_some 2 dim l) (valid_few 2 dim l)))
    (λ l. renamed (vector_space 3 dim) dim refl (max_axioms dim (valid_some 3 dim l) (valid_few 3 dim l)))
    (λ l. renamed (kendall_space dim) dim refl (kendall_axioms dim (valid_some 4 dim l) (valid_few 4 dim l)))
    (λ l. renamed (hausdorff_space dim) dim refl (hausdorff_axioms dim (valid_some 5 dim l) (valid_few 5 dim l)))
    (λ l. renamed (mix_parts 6 dim) dim (valid_even 6 dim refl l) (half_sum dim (valid_some 6 dim l) (valid_few 6 dim l) (valid_even 6 dim refl l)))
    (λ l. renamed (mix_parts 7 dim) dim (valid_even 7 dim refl l) (half_most dim (valid_some 7 dim l) (valid_few 7 dim l) (valid_even 7 dim refl l)))
    (λ l. renamed (mix_parts 8 dim) dim refl
    (capped_axioms (vector_space 2 dim) 65535 (l1_axioms dim (valid_some 8 dim l) (valid_few 8 dim l)) (omega arith) (omega arith)))
    kind low high valid

-- both halves of a list of 32-bit numbers are such lists
halves_fit : (half dim : ℕ) (p : List ℕ) → half + half ≡ dim → IsTrue (is_vector dim p) → (is_vector half (take half p) && is_vector half (drop half p)) ≡ true
halves_fit half dim p even is_point =
    let parts = and_parts (length p == dim) (list_all (λ x. nat_lt x (2 ^ 32)) p) is_point in
    let long = eqb-true (length p) dim parts.0 in
    let whole : list_all (λ x. nat_lt x (2 ^ 32)) (take half p ++ drop half p) ≡ true =
    ap (λ (l : List ℕ). list_all (λ x. nat_lt x (2 ^ 32)) l) (take-append-drop half p) ∙ parts.1 in
    let small = and_parts (list_all (λ x. nat_lt x (2 ^ 32)) (take half p)) (list_all (λ x. nat_lt x (2 ^ 32)) (drop half p))
    (sym (list_all-append (λ x. nat_lt x (2 ^ 32)) (take half p) (drop half p)) ∙ whole) in
    and_from (is_vector half (take half p)) (is_vector half (drop half p))
    (and_from (length (take half p) == half) (list_all (λ x. nat_lt x (2 ^ 32)) (take half p))
    (eq-eqb (length (take half p)) half (omega (arith, length-take half p))) small.0)
    (and_from (length (drop half p) == half) (list_all (λ x. nat_lt x (2 ^ 32)) (drop half p))
    (eq-eqb (length (drop half p)) half (omega (arith, length-drop half p))) small.1)

pub vectors_fit : VectorsFit
vectors_fit kind dim low high valid not_4 not_5 p is_point =
    eight (λ k. IsTrue (is_valid k dim) → k ≢ 4 → k ≢ 5 → IsTrue ((mix_space k dim).is_point p))
    (λ l f g. is_point) (λ l f g. is_point) (λ l f g. is_point)
    (λ l f g. absurd (f refl)) (λ l f g. absurd (g refl))
    (λ l f g. halves_fit (dim / 2) dim p (valid_even 6 dim refl l) is_point)
    (λ l f g. halves_fit (dim / 2) dim p (valid_even 7 dim refl l) is_point)
    (λ l f g. is_point)
    kind low high valid not_4 not_5
