-- The lemmas that proofs of crates above cite; all else in proofs/ is this crate's own.

-- Which pages are free or held.
pub use Rattle.free_pages.proofs.Members.{outside_is, pins_keep}
-- Free and held pages across a commit.
pub use Rattle.free_pages.proofs.Commits.{keep_within, keep_beside, keep_outside, free_numbers, placements_exchange, pins_left, guard}
-- What is not in a list stands in it no times.
pub use Rattle.free_pages.proofs.Commits.{none_in}
