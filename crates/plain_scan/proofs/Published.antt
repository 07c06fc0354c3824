-- The lemmas that proofs of crates above cite; all else in proofs/ is this crate's own.

-- What is written so far, and what one more reply makes of it.
pub use Rattle.plain_scan.proofs.WrittenLemmas.{front_appended}
