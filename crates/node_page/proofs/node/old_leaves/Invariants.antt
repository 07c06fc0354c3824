use Rattle.std.proofs.Common.{◌≡◌, true}
use Rattle.tree_shape.specs.Flat.{firsts}
use Rattle.node_page.specs.declared.node.Version.TheVariants.{First}
use Rattle.node_page.specs.Nodes.{leaf_in, place_in}
use Rattle.node_page.proofs.node.old_leaves.Given as goal

abbrev pub invariant-loop-index : goal.invariant-loop-index
invariant-loop-index l = l.entries.items ≡ firsts (λ i. leaf_in First l.dim l.page (place_in First true l.dim i)) l.index
