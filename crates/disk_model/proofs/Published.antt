-- The lemmas that proofs of crates above cite; all else in proofs/ is this crate's own.

-- What recorded calls come to, and one call more.
pub use Rattle.disk_model.proofs.Calls.{state_at, replayed_push, one_call, write_follows, nothing_follows, nothing_unchanged, nothing_one_call, sync_only, sync_fewer, rest_only}
