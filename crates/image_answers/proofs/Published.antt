-- The lemmas that proofs of crates above cite; all else in proofs/ is this crate's own.

-- The outcome of a query.
pub use Rattle.image_answers.proofs.Asking.{given_plain}
