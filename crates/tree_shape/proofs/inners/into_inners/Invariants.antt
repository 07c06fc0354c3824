use Rattle.std.proofs.Common.{◌≡◌}
use Rattle.tree_shape.specs.Flat.{firsts, inner_from, start_of}
use Rattle.tree_shape.proofs.inners.into_inners.Given as goal

abbrev pub invariant-loop-index : goal.invariant-loop-index
invariant-loop-index l = l.entries.items ≡ firsts (λ i. inner_from l.fn.flat.dim l.fn.flat.numbers.items (start_of l.fn.flat.dim i)) l.index
