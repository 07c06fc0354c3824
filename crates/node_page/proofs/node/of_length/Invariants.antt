use Rattle.std.proofs.Common.{◌-◌, ◌≤◌, length}
use Rattle.node_page.proofs.node.of_length.Given as goal

-- no more numbers than are wanted
abbrev pub invariant-loop-numbers : goal.invariant-loop-numbers
invariant-loop-numbers l = length l.numbers.items ≤ l.count

abbrev pub decreases-loop-numbers : goal.decreases-loop-numbers
decreases-loop-numbers l = l.count - length l.numbers.items
