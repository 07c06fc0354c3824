-- The entries of a node, and how one is seen.
use Rattle.std.specs.Prelude.{List}
use Rattle.tree_shape.specs.declared.entry.LeafEntry.{LeafEntry}
use Rattle.tree_shape.specs.declared.entry.InnerEntry.{InnerEntry}
use Rattle.tree_shape.specs.declared.refs.LeafRef.{LeafRef}
use Rattle.tree_shape.specs.declared.refs.InnerRef.{InnerRef}
use Rattle.tree_shape.specs.declared.flat.FlatEntries.{FlatEntries}
use Rattle.tree_shape.specs.declared.leaves.HeldLeaves.{HeldLeaves}
use Rattle.tree_shape.specs.declared.leaves.HeldLeaves.TheVariants as leaves
use Rattle.tree_shape.specs.declared.inners.HeldInners.{HeldInners}
use Rattle.tree_shape.specs.declared.inners.HeldInners.TheVariants as inners
use Rattle.tree_shape.specs.declared.leaves.SeenLeaves.{SeenLeaves}
use Rattle.tree_shape.specs.declared.leaves.SeenLeaves.TheVariants as seen_leaves
use Rattle.tree_shape.specs.declared.inners.SeenInners.{SeenInners}
use Rattle.tree_shape.specs.declared.inners.SeenInners.TheVariants as seen_inners
use Rattle.tree_shape.specs.Flat.{firsts, start_of, leaf_from, inner_from}

-- the objects that the numbers spell
abbrev pub flat_leaves : FlatEntries → List LeafEntry
flat_leaves flat = firsts (λ i. leaf_from flat.dim flat.numbers.items (start_of flat.dim i)) flat.count

-- the subtrees that the numbers spell
abbrev pub flat_inners : FlatEntries → List InnerEntry
flat_inners flat = firsts (λ i. inner_from flat.dim flat.numbers.items (start_of flat.dim i)) flat.count

-- the objects of a leaf
abbrev pub leaves_in : HeldLeaves → List LeafEntry
leaves_in (leaves.Flat flat) = flat_leaves flat
leaves_in (leaves.Apart entries) = entries.items

-- the subtrees of an inner node
abbrev pub inners_in : HeldInners → List InnerEntry
inners_in (inners.Flat flat) = flat_inners flat
inners_in (inners.Apart entries) = entries.items

-- the objects of a leaf, where they are seen
abbrev pub leaves_seen : SeenLeaves → List LeafEntry
leaves_seen (seen_leaves.Flat flat) = firsts (λ i. leaf_from flat.dim flat.numbers.now (start_of flat.dim i)) flat.count
leaves_seen (seen_leaves.Apart entries) = entries.now.items

-- the subtrees of an inner node, where they are seen
abbrev pub inners_seen : SeenInners → List InnerEntry
inners_seen (seen_inners.Flat flat) = firsts (λ i. inner_from flat.dim flat.numbers.now (start_of flat.dim i)) flat.count
inners_seen (seen_inners.Apart entries) = entries.now.items

-- the object that is seen
abbrev pub leaf_of : LeafRef → LeafEntry
leaf_of e = record { id = e.id; tag = e.tag; parent = e.parent; point = e.point.now }

-- the subtree that is seen
abbrev pub inner_of : InnerRef → InnerEntry
inner_of e = record { child = e.child; radius = e.radius; parent = e.parent; point = e.point.now }
