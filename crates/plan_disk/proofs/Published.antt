-- The lemmas that proofs of crates above cite; all else in proofs/ is this crate's own.

-- A stretch of moments of a plan's disk speaks of one file.
pub use Rattle.plan_disk.proofs.Bases.{bases_same}
