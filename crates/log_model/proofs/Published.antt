-- The lemmas that proofs of crates above cite; all else in proofs/ is this crate's own.

-- Lists in ascending order are determined by their members.
pub use Rattle.log_model.proofs.Order.{before_all, rising-in_order, in-in_order}
-- The orders of hits and of pairs, and the plain scan's answers in them.
pub use Rattle.log_model.proofs.Orders.{hit_order, pair_order, ascending_pairs}
-- Lists of hits in order: their near part, their first k, and the last of them.
pub use Rattle.log_model.proofs.Hits.{Rising, ascends_take}
-- Entries that are not marked Near hold no answer.
pub use Rattle.log_model.proofs.Pruned.{point_above, FitsAbove, is_answer, held, leaf_marked_near}
-- A sound walk names the answers in its pages.
pub use Rattle.log_model.proofs.Walk.{Spot, need_at, IsSoundSpot, spot_of, objects_of, needs_from_spots, near_of_sound, map-append, answers_in, same_node}
-- The least marks are allowed, and there is one walk with them.
pub use Rattle.log_model.proofs.Least.{object_allowed, zip-map, least_allowed, walks_wider}
-- The answers among a tree's objects are those of the scan of its points.
pub use Rattle.log_model.proofs.ByScan.{AreIds, length-points, id_below, at_id}
-- On a sound tree a query has exactly one least log.
pub use Rattle.log_model.proofs.LeastLog.{root_names, sound_complete, least_sound}
-- The entry at a place of a node, as an item.
pub use Rattle.log_model.proofs.Places.{object_at, subtree_at}
-- The pairs that an opened node leaves.
pub use Rattle.log_model.proofs.JoinSteps.{paired_same, hits_append, needs_append}
-- A sound join walk names the pairs within the radius.
pub use Rattle.log_model.proofs.JoinNames.{with_side, opened_side}
-- On two sound trees a sound join log names the double loop's answers, and there is one least log.
pub use Rattle.log_model.proofs.JoinScan.{join_complete}
-- Two sound trees have exactly one least log of a join.
pub use Rattle.log_model.proofs.JoinLeast.{join_least_sound}
-- Walks that stopped before their end.
pub use Rattle.log_model.proofs.Reached.{reaches_more, walks_whole, reached_inside, count_up_more, count_up_both, measured-append}
-- The logs of walks have a spelling.
pub use Rattle.log_model.proofs.Valid.{valid_log, marks_long, hits_few}
-- What the walk of a log meets, and what one more page adds to it.
pub use Rattle.log_model.proofs.Meeting.{marks_node, marked_is, met_none, pages_needed, near_needs, tagged_more, hits_more}
