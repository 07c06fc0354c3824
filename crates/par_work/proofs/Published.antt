-- The lemmas that proofs of crates above cite; all else in proofs/ is this crate's own.

-- Pieces of a list.
pub use Rattle.par_work.proofs.Joining.{if_ok}
