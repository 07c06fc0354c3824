-- The steps of the join's walk.
use Rattle.std.specs.Prelude.{ℕ}
use Rattle.metric_laws.specs.Space.{Space}
use Rattle.tree_shape.specs.declared.entry.LeafEntry.{LeafEntry}
use Rattle.tree_shape.specs.declared.entry.InnerEntry.{InnerEntry}
use Rattle.log_model.specs.declared.pairs.JoinNeed.{JoinNeed}
use Rattle.log_model.specs.JoinWalk.{object_entry, subtree_entry, with_entry}

-- the pairs that an object and a subtree make
abbrev pub object_pair : Space → JoinNeed → LeafEntry → JoinNeed
object_pair s n e = with_entry s n (object_entry e)

abbrev pub subtree_pair : Space → JoinNeed → ℕ → InnerEntry → JoinNeed
subtree_pair s n level e = with_entry s n (subtree_entry level e)
