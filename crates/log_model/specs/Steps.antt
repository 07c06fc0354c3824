-- The steps of a walk with the least marks.
use Rattle.std.specs.Prelude.{◌≡◌, [], ◌∷◌, ◌++◌, map, reverse}
use Rattle.tree_shape.specs.declared.entry.Node.{Node}
use Rattle.log_model.specs.declared.marks.Need.{Need}
use Rattle.log_model.specs.declared.traversal.Traversal.{Traversal}
use Rattle.log_model.specs.Walk.{Search, least_marks, needs_of, record_of}
use Rattle.log_model.specs.Met.{near_objects, tagged_of}

-- the node of a needed page was processed
pub record TakesNode (f : Search) (n : Need) (node : Node) (old new : Traversal) : Type 0 where
  pub tagged : new.tagged.items ≡ old.tagged.items ++ map (tagged_of f.space f.point) (near_objects node (least_marks f n.above node))
  pub records : new.records.items ≡ old.records.items ++ record_of f n node ∷ []
  pub needs : reverse new.stack.items ≡ needs_of f node (least_marks f n.above node) ++ reverse old.stack.items
