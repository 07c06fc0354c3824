-- The lemmas that proofs of crates above cite; all else in proofs/ is this crate's own.

-- The answers of a range query are the objects within the radius, in order.
pub use Rattle.scan_model.proofs.RangeLaw.{range_answers}
-- The answers of a join are the pairs within the radius, in order.
pub use Rattle.scan_model.proofs.JoinLaw.{join_answers}
