-- The lemmas that proofs of crates above cite; all else in proofs/ is this crate's own.

-- Statuses that are not.
pub use Rattle.job_files.proofs.Statuses.{neither}
-- What a valid head says of its space.
pub use Rattle.job_files.proofs.Spaces.{space_by_head}
-- How an audit ends, by what its parts told.
pub use Rattle.job_files.proofs.Ends.{no_index, rose_by_disk, told_by, audit_rose, only, none_of_three, none_of_four, is_first, audited_before, sound_before, unopened_audits, sound_audits, rejected_audits}
-- How the walk of an opened file's tree stops, said of the bytes before the opening.
pub use Rattle.job_files.proofs.Shaped.{damage_before, stop_rose}
-- Files that are not sound.
pub use Rattle.job_files.proofs.Unsound.{no_index_unsound, damaged_unsound}
-- What is said of a file and of what follows it, by what was put.
pub use Rattle.job_files.proofs.logs.Audits.{file_stopped, file_unsound, unsound_status, file_then, sound_status}
-- How a job ends, by what was put before.
pub use Rattle.job_files.proofs.logs.Ends.{of_two, of_three, said_all, said_some, judged_all, judged_some, judged_none, judged_late, read_all, read_none}
-- The texts on logs show which are complete.
pub use Rattle.job_files.proofs.logs.Showing.{show_logs}
-- Nodes stand below a file's number of pages.
pub use Rattle.job_files.proofs.logs.Within.{nodes_within}
-- What was left to read, and what was read of it.
pub use Rattle.job_files.proofs.Taken.{always, weaker, read_whole}
