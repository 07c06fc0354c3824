-- The lemmas that proofs of crates above cite; all else in proofs/ is this crate's own.

-- A batch whose script was read, or was not.
pub use Rattle.batch_run.proofs.jobs.Whole.{out_of_memory}
-- A status that is none of a batch or a session that came to its end.
pub use Rattle.batch_run.proofs.jobs.Opened.{unfinished}
