use Rattle.std.proofs.Common.{◌≡◌, vec_len}
use Rattle.std.specs.List.{AllByRecursion}
use Rattle.tree_shape.specs.Tree.{Nodes}
use Rattle.index_core.specs.Pinning.{LiesBesideTree}
use Rattle.session_run.specs.Pinned.{IsKeptBy, PinsFollow}
use Rattle.session_run.proofs.pinned.PinnedCursors.close_all.Given as goal

-- the trees of the cursors that are left are pinned
abbrev pub invariant-loop-pinned : goal.invariant-loop-pinned
invariant-loop-pinned g l = record {
  only : l.index ≡ record l.fn.index { free = l.index.free };
  kept : AllByRecursion (IsKeptBy (g.M.Metric.space l.fn.index.file.metric) l.index) l.self.cursors.items;
  beside : (nodes : Nodes) → LiesBesideTree nodes l.fn.index → LiesBesideTree nodes l.index;
  pins : PinsFollow l.fn.index l.index l.fn.self.cursors.items l.self.cursors.items;
}

abbrev pub decreases-loop-pinned : goal.decreases-loop-pinned
decreases-loop-pinned g l = vec_len l.self.cursors
