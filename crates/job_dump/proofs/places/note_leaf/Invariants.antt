use Rattle.std.proofs.Common.{◌≡◌, ◌++◌, List, take}
use Rattle.tree_shape.specs.declared.entry.LeafEntry.{LeafEntry}
use Rattle.tree_shape.specs.Tree.{Nodes, leaf_entries}
use Rattle.job_dump.specs.Places.{Notes}
use Rattle.job_dump.proofs.places.note_leaf.Given as goal

-- the entries so far are noted
abbrev pub invariant-loop-number : goal.invariant-loop-number
invariant-loop-number l = (nodes : Nodes) (met : List LeafEntry) → leaf_entries (nodes l.page) ≡ l.entries → Notes nodes l.fn.numbers met → Notes nodes l.numbers (met ++ take l.number l.entries)
