-- The lemmas that proofs of crates above cite; all else in proofs/ is this crate's own.

-- What is placed beside a live tree can be committed.
pub use Rattle.shadow_root.proofs.Beside.{placements_can_follow, new_is_beside, in_place_is_written}
-- What the files at the moments of a commit hold.
pub use Rattle.shadow_root.proofs.Lists.{commits_keep_head, commits_keep_lists}
