use Rattle.std.proofs.Common.{◌≡◌, ◌++◌, ◌≤◌, vec_len}
use Rattle.seal_log.specs.Digests.{levels_over}
use Rattle.seal_log.proofs.tree.Tree.over.Given as goal

abbrev pub invariant-levels : goal.invariant-levels
invariant-levels l = (1 ≤ vec_len l.level) × (l.levels.items ++ levels_over l.level.items ≡ levels_over l.fn.leaves.items)

abbrev pub decreases-levels : goal.decreases-levels
decreases-levels l = vec_len l.level
