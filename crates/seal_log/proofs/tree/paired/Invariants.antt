use Rattle.std.proofs.Common.{◌≡◌, ◌++◌, length}
use Rattle.seal_log.specs.Digests.{paired}
use Rattle.seal_log.proofs.tree.paired.Given as goal

abbrev pub invariant-pairs : goal.invariant-pairs
invariant-pairs l = l.above.items ++ paired l.rest ≡ paired l.level

abbrev pub decreases-pairs : goal.decreases-pairs
decreases-pairs l = length l.rest
