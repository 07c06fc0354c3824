-- The lemmas that proofs of crates above cite; all else in proofs/ is this crate's own.

-- Sums over lists, and members in another order.
pub use Rattle.nearest_search.proofs.Totals.{total-append, total-flat_map, total-permutation, in-permutation, in-permutation_back}
-- One of what is still to be added was added.
pub use Rattle.nearest_search.proofs.Waits.{moved_one}
