-- The lemmas that proofs of crates above cite; all else in proofs/ is this crate's own.

-- Lemmas on lists that several crates use.
pub use Rattle.metric_laws.proofs.Lists.{all_weaker, all_append, all_flat_map, all_in, all_each, in-append_left, in-append_right, in-append, all_filter, filter-flat_map, flat_map-append, flat_map-map, filter_none, filter_all, in-filter, filter-in, in-map, map-in, all_both, length_map, all_map}
