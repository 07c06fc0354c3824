-- The spread of numbers that were put in order.
use Rattle.std.proofs.Common.{◌≡◌, ℕ, ◌-◌, ◌/◌, ◌<◌, List, [], length, get_or, refl, sym, ◌∙◌, arith}
use Rattle.std.specs.Ordering.{nat_cmp}
use Rattle.std.specs.List.Sorted.{IsPermutation, IsSorted}
use Rattle.std.proofs.lemmas.List.{nil_from_length}
use Rattle.std.proofs.lemmas.List.Sorted.{IsNonDecreasingBy-from_sort, length_permutation}
use Rattle.std.proofs.lemmas.Option.{slice_get_read}
use Rattle.job_stats.specs.Numbers.{AreEnds}

pub ends_read : (numbers sorted : List ℕ) (last least middle most : ℕ) → IsPermutation numbers sorted → IsSorted nat_cmp sorted
    → 0 < length sorted → last ≡ length sorted - 1
    → least ≡ get_or sorted 0 least → middle ≡ get_or sorted (last / 2) middle → most ≡ get_or sorted last most
    → AreEnds numbers (record { least = least; middle = middle; most = most })
ends_read numbers sorted last least middle most same up some last_is least_is middle_is most_is = record {
  sorted = sorted;
  same = same;
  ascending = IsNonDecreasingBy-from_sort (λ (n : ℕ). n) sorted up;
  least = slice_get_read sorted (length sorted) 0 least refl some least_is;
  middle = slice_get_read sorted (length sorted) ((length sorted - 1) / 2) middle refl (omega arith) (rw (← last_is) middle_is);
  most = slice_get_read sorted (length sorted) (length sorted - 1) most refl (omega arith) (rw (← last_is) most_is);
}

pub none_to_spread : (numbers sorted : List ℕ) → IsPermutation numbers sorted → length sorted ≡ 0 → numbers ≡ []
none_to_spread numbers sorted same none = nil_from_length numbers (sym (length_permutation numbers sorted same) ∙ none)
