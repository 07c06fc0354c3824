-- The lemmas that proofs of crates above cite; all else in proofs/ is this crate's own.

-- One entry more of a node.
pub use Rattle.job_show.proofs.MarkedLines.{at_entry, lines_next, allowed_next}
-- The counts of a node's marks, and of a walk.
pub use Rattle.job_show.proofs.FewMarks.{AreBelow, each_below, AreFew, few_next, few_small}
-- What puts one after another come to.
pub use Rattle.job_show.proofs.PutTexts.{HasPut, begun, both_put, has_put, memory_put, none_put, one_more, stopped_put, then_put}
-- A log whose marks are allowed has no wrong mark.
pub use Rattle.job_show.proofs.Wholeness.{none_wrong, ok_from_some}
