-- The lemmas that proofs of crates above cite; all else in proofs/ is this crate's own.

-- The steps of a walk of the live tree.
pub use Rattle.page_tour.proofs.Touring.{tour_begins, tour_goes_on, tour_stops, tour_reads, tour_ends}
