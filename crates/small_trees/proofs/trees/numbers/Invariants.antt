use Rattle.std.proofs.Common.{◌≡◌}
use Rattle.small_trees.specs.Trees.{numbers}
use Rattle.small_trees.proofs.trees.numbers.Given as goal

abbrev pub invariant-loop-i : goal.invariant-loop-i
invariant-loop-i l = l.entries.items ≡ numbers l.from l.i l.centre
