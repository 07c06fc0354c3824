-- The lemmas that proofs of crates above cite; all else in proofs/ is this crate's own.

-- The objects of a sound tree.
pub use Rattle.tree_shape.proofs.Within.{Fits, SoundSubtree, objects_fit, flat_map_agree, in-flat_map, all_within, Agree, child_agrees, objects_stay, same_pages, still_sound}
-- The points of a tree in order of id.
pub use Rattle.tree_shape.proofs.ById.{ids_of, times-in, object_of, point_of-in}
-- How often numbers stand in a list.
pub use Rattle.tree_shape.proofs.Counting.{times-append, few, times-past, each_once, counted, each_once_back}
-- How high a sound tree is.
pub use Rattle.tree_shape.proofs.Height.{three_at_least, flat_long, power_rises, not_higher, height_is_small}
-- The plain tree that is read from pages.
pub use Rattle.tree_shape.proofs.Reading.{same_objects}
-- A sound tree on pages is sound without them.
pub use Rattle.tree_shape.proofs.Bare.{all_mapped, sound_without_pages}
-- Lists of f 0, f 1 and so on.
pub use Rattle.tree_shape.proofs.Firsts.{firsts_more, firsts_none, length-firsts, place-firsts, firsts_by, firsts_same}
