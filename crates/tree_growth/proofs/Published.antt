-- The lemmas that proofs of crates above cite; all else in proofs/ is this crate's own.

-- An insertion adds its object and loses none.
pub use Rattle.tree_growth.proofs.Added.{chosen_low, tally, tally_is, insertion_adds_one}
-- How many objects the groups have.
pub use Rattle.tree_growth.proofs.Sized.{one_if, in_group-set, length_set, length_more, nearest_some, length_seeds}
-- The number of groups has room for all, and leaves enough for each.
pub use Rattle.tree_growth.proofs.Fitting.{Fits, count_fits, powers_wide}
-- A bulk load keeps its objects.
pub use Rattle.tree_growth.proofs.Loaded.{power_some, some_group, weigh, weigh_all, weight_of, groups_at_weigh, load_keeps_objects}
-- Both groups of a partition have their share.
pub use Rattle.tree_growth.proofs.Fair.{tally_sides, count_is_tally, tally_members, IsFair, fair}
-- The rows of a table.
pub use Rattle.tree_growth.proofs.TableRows.{row_of_table}
-- An insertion keeps a tree sound.
pub use Rattle.tree_growth.proofs.Kept.{taken_map, left_map, all_taken, all_left, parts_long, GrownAll, inserted_all}
-- The rules keep what a split has to keep.
pub use Rattle.tree_growth.proofs.Valid.{taken_tally, left_tally, get_map, promoted_pair, insertion_keeps_sound}
-- Each inner node of a sound tree has an entry.
pub use Rattle.tree_growth.proofs.Entries.{sound_has_entries}
-- A bulk load makes a sound tree.
pub use Rattle.tree_growth.proofs.LoadSound.{groups_long, point_at_place, places_long, places_low, group_most, group_least, power_one, grows, height_is, load, built_all, IsGood, groups_good, four_times, load_is_sound}
-- A partition is fair.
pub use Rattle.tree_growth.proofs.Parted.{partition_is_fair}
