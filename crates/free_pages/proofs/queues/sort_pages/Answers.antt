use Rattle.std.proofs.Common.{sym, subst, ◌∙◌}
use Rattle.std.specs.List.Sorted.{IsNonDecreasing}
use Rattle.std.proofs.lemmas.List.Sorted.{IsNonDecreasingBy-from_sort, length_permutation}
use Rattle.free_pages.proofs.queues.sort_pages.Goals as goal

pub returns-clause-sorted : goal.returns-clause-sorted
returns-clause-sorted c =
    let sorted = c.sort_unstable.new.self in
    let long = length_permutation c.make_contiguous.result.now sorted c.sort_unstable.ensures.permutation in
    subst IsNonDecreasing (sym (c.make_contiguous.ensures.writes_back sorted (long ∙ c.make_contiguous.ensures.len))) (IsNonDecreasingBy-from_sort (λ n. n) sorted c.sort_unstable.ensures.sorted)
