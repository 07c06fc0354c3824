-- The lemmas that proofs of crates above cite; all else in proofs/ is this crate's own.

-- Reading things one after the other, as a loop does.
pub use Rattle.prune_log.proofs.Loop.{last_of, with_front, goes_on, ends, is_done}
-- A field that is read is spelled so, and what was spelled is read again, whatever follows.
pub use Rattle.prune_log.proofs.Exact.{IsBytes-drop, IsBytes-take, bind_ok, guard_ok, not_cut, ok_is, Takes, Takes-then, IsReader, wide32, wide64, number_reader, byte_takes}
-- The things that a log lists: what is read is spelled so, and what was spelled is read again.
pub use Rattle.prune_log.proofs.Things.{IsShort, short_reader}
-- Logs: what is read is spelled so, and what was spelled is read again.
pub use Rattle.prune_log.proofs.Logs.{IsLog, log_reader}
-- What a call answered, from what reading gives.
pub use Rattle.prune_log.proofs.Whole.{whole_takes, whole_again, no_fault}
