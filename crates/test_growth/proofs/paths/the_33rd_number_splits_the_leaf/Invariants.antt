use Rattle.std.proofs.Common.{◌*◌}
use Rattle.node_page.specs.Opening.{IsValidLive}
use Rattle.test_growth.proofs.paths.the_33rd_number_splits_the_leaf.Given as goal

abbrev pub invariant-loop-x : goal.invariant-loop-x
invariant-loop-x g l = IsValidLive l.head.limit (l.file.live.pages * 4096) l.file.live
