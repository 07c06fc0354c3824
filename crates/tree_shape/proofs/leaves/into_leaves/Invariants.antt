use Rattle.std.proofs.Common.{◌≡◌}
use Rattle.tree_shape.specs.Flat.{firsts, leaf_from, start_of}
use Rattle.tree_shape.proofs.leaves.into_leaves.Given as goal

abbrev pub invariant-loop-index : goal.invariant-loop-index
invariant-loop-index l = l.entries.items ≡ firsts (λ i. leaf_from l.fn.flat.dim l.fn.flat.numbers.items (start_of l.fn.flat.dim i)) l.index
