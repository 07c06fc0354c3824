use Rattle.std.proofs.Common.{◌≡◌, ◌++◌, drop}
use Rattle.seal_log.specs.Paths.{path_in}
use Rattle.seal_log.proofs.tree.Tree.path.Given as goal

abbrev pub invariant-levels : goal.invariant-levels
invariant-levels l = l.path.items ++ path_in (drop l.level-index l.level-items) l.place ≡ path_in l.level-items l.page
