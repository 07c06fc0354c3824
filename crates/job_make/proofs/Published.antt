-- The lemmas that proofs of crates above cite; all else in proofs/ is this crate's own.

-- What a new index that was filled holds, and what is written of it.
pub use Rattle.job_make.proofs.Generated.{no_memory}
-- How `migrate` ends.
pub use Rattle.job_make.proofs.Migrated.{migrates_no_memory}
