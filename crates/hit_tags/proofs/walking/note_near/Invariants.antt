use Rattle.std.proofs.Common.{◌≡◌, ◌++◌, List, drop, map}
use Rattle.log_model.specs.Walk.{near_ones}
use Rattle.tree_shape.specs.declared.entry.LeafEntry.{LeafEntry}
use Rattle.hit_tags.specs.Wanted.{leaf_tag, TakesIn}
use Rattle.hit_tags.proofs.walking.note_near.Given as goal

-- the objects so far are taken in
abbrev pub invariant-loop-index : goal.invariant-loop-index
invariant-loop-index l = record {
  objects : List LeafEntry;
  taken : TakesIn l.fn.wanted (map leaf_tag objects) l.wanted;
  left : objects ++ near_ones (drop l.index l.entries) (drop l.index l.marks) ≡ near_ones l.entries l.marks;
}
