-- The lemmas that proofs of crates above cite; all else in proofs/ is this crate's own.

-- The bytes of a file, page by page.
pub use Rattle.page_store.proofs.PageBytes.{length-page_of, place-page_of, same_page, page_is}
-- How a page's bytes give the answer of a request for the page.
pub use Rattle.page_store.proofs.Answers.{within_by_test, reads_page, reads_outside, answers_node, answers_fault, answers_outside, not_outside}
-- Pages that hold what they held.
pub use Rattle.page_store.proofs.Held.{holds_none, holds_both, told_then}
-- What is known after a call that did not fail.
pub use Rattle.page_store.proofs.Results.{holds_at_ok}
-- The pages that new nodes are given.
pub use Rattle.page_store.proofs.Given.{next_at, number_in, number_out, lower_or, number_up, number_within, given_once, pages_numbered, numbered_long, given_in, free_none}
-- What a file with staged nodes shows.
pub use Rattle.page_store.proofs.Standing.{HoldsFrom, holds_append, holds_after, pages_from, pages_append, pages_more, trees_from, trees_append, trees_more, trees_numbered, in_get, stand_holds, in_times, times_in}
-- New nodes on their pages can be committed.
pub use Rattle.page_store.proofs.Giving.{limit_small, given_out, given_free, given_apart, given_each, staged_out}
-- Stored distances and levels of a file's nodes.
pub use Rattle.page_store.proofs.Stored.{branch_at, below_in, IsStoredAt, IsStoredEntry, sound_of_stored}
-- Ids and tags of objects that are there once each.
pub use Rattle.page_store.proofs.Ids.{with_id, tally, tally_count, tally_ids, tag_of-in, AreCounted, once_counted, there_counted, none_counted}
-- The pages that the nodes of some pages name.
pub use Rattle.page_store.proofs.Named.{in_node, fewer_named, names_of, named_numbered, names_more}
-- A sound tree is whole, on its pages in pre-order.
pub use Rattle.page_store.proofs.Whole.{sound_is_whole, stands_named, stand_on_pages}
-- How the tree of a commit stands on its pages.
pub use Rattle.page_store.proofs.Following.{new_stands, go_on, placements_new}
-- The walk by child numbers has one course.
pub use Rattle.page_store.proofs.OneTour.{same_some}
-- The steps of the walk by child numbers, over pages that hold what they held.
pub use Rattle.page_store.proofs.Touring.{tours_more, page_stops}
-- The walk of a sound tree by child numbers is whole.
pub use Rattle.page_store.proofs.SoundTour.{sound_names, tour_passes}
