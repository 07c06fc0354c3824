-- The lemmas that proofs of crates above cite; all else in proofs/ is this crate's own.

-- What a command does that leaves the objects of a file as they are.
pub use Rattle.session_run.proofs.Reading.{objects_on}
-- A session for which memory ran out before it began.
pub use Rattle.session_run.proofs.Jobs.{memory_session}
