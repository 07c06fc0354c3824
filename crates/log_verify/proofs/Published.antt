-- The lemmas that proofs of crates above cite; all else in proofs/ is this crate's own.

-- A log has no fault exactly where it is sound.
pub use Rattle.log_verify.proofs.Soundness.{sound_from_none, none_from_sound}
