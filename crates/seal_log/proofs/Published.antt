-- The lemmas that proofs of crates above cite; all else in proofs/ is this crate's own.

-- The head and the live slot of a file of `pages` pages.
pub use Rattle.seal_log.proofs.OpenedFiles.{valid-dim}
