-- The lemmas that proofs of crates above cite; all else in proofs/ is this crate's own.

-- What is kept agrees with the pages behind.
pub use Rattle.page_cache.proofs.Agreement.{agreement_lasts}
