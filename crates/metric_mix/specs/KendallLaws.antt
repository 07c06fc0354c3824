-- Kendall's space is a space.
use Rattle.std.specs.Prelude.{◌≡◌, ℕ, ◌≤◌, List, length, take, IsTrue}
use Rattle.std.proofs.Common.{arith, sym, ◌∙◌}
use Rattle.std.proofs.lemmas.List.{take_all}
use Rattle.metric_laws.specs.Space.{IsSpace}
use Rattle.metric_mix.specs.Permutations.{is_permutation, kendall_distance, kendall_space}
use Rattle.metric_mix.specs.Ranks.{high_is, permutation_long, permutation_below}
use Rattle.metric_mix.specs.Discordance.{discord, discord_is, discord_symmetric, discord_same, discord_triangle, discord_few, discord_apart}

-- for points, all places count
kendall_is : (n : ℕ) (a b : List ℕ) → IsTrue (is_permutation n a) → IsTrue (is_permutation n b) → kendall_distance n a b ≡ discord a b
kendall_is n a b fa fb =
    let first : take n a ≡ a = take_all n a (omega (arith, permutation_long n a fa)) in
    let second : take n b ≡ b = take_all n b (omega (arith, permutation_long n b fb)) in
    discord_is (take n a) (take n b) ∙ (λ i. discord (first i) (second i))

same_long : (n : ℕ) (a b : List ℕ) → IsTrue (is_permutation n a) → IsTrue (is_permutation n b) → length a ≡ length b
same_long n a b fa fb = permutation_long n a fa ∙ sym (permutation_long n b fb)

pub kendall_axioms : (n : ℕ) → 1 ≤ n → n ≤ 64 → IsSpace (kendall_space n)
kendall_axioms n some few = record {
  some_coordinates = some;
  few_coordinates = few;
  long = permutation_long n;
  small = λ a fa. (let below = permutation_below n a fa in λ k d within. omega (arith, below k d within));
  symmetric = λ a b fa fb. kendall_is n a b fa fb ∙ discord_symmetric a b ∙ sym (kendall_is n b a fb fa);
  zero_same = λ a fa. kendall_is n a a fa fa ∙ discord_same a;
  same_zero = λ a b fa fb none.
      discord_apart a b (same_long n a b fa fb) (λ v. high_is n v a fa ∙ sym (high_is n v b fb)) (sym (kendall_is n a b fa fb) ∙ none);
  triangle = λ a b c fa fb fc.
      omega (
        arith,
        kendall_is n a c fa fc,
        kendall_is n a b fa fb,
        kendall_is n b c fb fc,
        discord_triangle a b c (same_long n a b fa fb) (same_long n b c fb fc),
      );
  bounded = λ a b fa fb.
      omega (arith, kendall_is n a b fa fb, discord_few a b (omega (arith, permutation_long n a fa)), permutation_long n a fa);
}
