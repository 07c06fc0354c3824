-- The lemmas that proofs of crates above cite; all else in proofs/ is this crate's own.

-- What the walk of a log meets on a sound tree.
pub use Rattle.hit_tags.proofs.Showing.{shown_tags}
