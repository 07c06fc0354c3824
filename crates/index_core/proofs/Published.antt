-- The lemmas that proofs of crates above cite; all else in proofs/ is this crate's own.

-- An opened index stands on its disk as long as that is only read.
pub use Rattle.index_core.proofs.Still.{stands_still, stands_alone_still}
-- A write that follows calls that only read.
pub use Rattle.index_core.proofs.Written.{holds, has_still, reads_both}
-- A page that a walk blames is damaged.
pub use Rattle.index_core.proofs.Damaged.{walk_reached}
