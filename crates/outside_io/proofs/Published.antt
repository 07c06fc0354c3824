-- The lemmas that proofs of crates above cite; all else in proofs/ is this crate's own.

-- A count that rose in the later part of a stretch rose in the whole stretch.
pub use Rattle.outside_io.proofs.Rising.{rose_before}
