-- The steps of the walk.
use Rattle.std.specs.Prelude.{◌≡◌, List, ◌++◌, reverse}
use Rattle.tree_shape.specs.declared.entry.Node.{Node}
use Rattle.log_model.specs.declared.marks.Mark.{Mark}
use Rattle.log_model.specs.Walk.{Search, hits_of, needs_of}
use Rattle.log_verify.specs.declared.walking.Walk.{Walk}

-- the hits that a node's marks name were appended, and the pages that they need come next
pub record NamesNode (f : Search) (node : Node) (marks : List Mark) (old new : Walk) : Type 0 where
  pub hits : new.hits.items ≡ old.hits.items ++ hits_of f node marks
  pub needs : reverse new.stack.items ≡ needs_of f node marks ++ reverse old.stack.items
