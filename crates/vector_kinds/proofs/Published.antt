-- The lemmas that proofs of crates above cite; all else in proofs/ is this crate's own.

-- A sum over the pairs of two lists, from a place on.
pub use Rattle.vector_kinds.proofs.Pairs.{sum_end}
