-- The entry at a place of a node, as an item.
use Rattle.std.proofs.Common.{◌≡◌, ◌∙◌, ℕ, ◌<◌, List, [], length, get_or, sym, ap}
use Rattle.std.proofs.lemmas.List.{get_or-map}
use Rattle.tree_shape.specs.declared.entry.LeafEntry.{LeafEntry}
use Rattle.tree_shape.specs.declared.entry.InnerEntry.{InnerEntry}
use Rattle.tree_shape.specs.declared.entry.Node.{Node}
use Rattle.tree_shape.specs.declared.entry.Node.TheVariants.{Leaf, Inner}
use Rattle.log_model.specs.Items.{Object, item_at, object_item, subtree_item}

pub object_at : (node : Node) (es : List LeafEntry) (i : ℕ) (e : LeafEntry) → node ≡ Leaf es → i < length es → e ≡ get_or es i e → item_at node i ≡ object_item e
object_at node es i e leaf low is = rw leaf (get_or-map object_item es i e (Object 0 []) low ∙ ap object_item (sym is))

pub subtree_at : (node : Node) (level : ℕ) (es : List InnerEntry) (i : ℕ) (e : InnerEntry) → node ≡ Inner level es → i < length es → e ≡ get_or es i e → item_at node i ≡ subtree_item level e
subtree_at node level es i e inner low is = rw inner (get_or-map (subtree_item level) es i e (Object 0 []) low ∙ ap (subtree_item level) (sym is))
