-- The lemmas that proofs of crates above cite; all else in proofs/ is this crate's own.

-- One level of a descent.
pub use Rattle.insert_path.proofs.Level.{child_page}
