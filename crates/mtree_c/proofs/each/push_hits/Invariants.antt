use Rattle.std.proofs.Common.{◌≡◌, take, ◌++◌}
use Rattle.mtree_c.specs.Answers.{tagged}
use Rattle.mtree_c.proofs.each.push_hits.Given as goal

abbrev pub invariant-loop-i : goal.invariant-loop-i
invariant-loop-i l = l.all.items ≡ l.fn.all.items ++ tagged (take l.i l.hits) (take l.i l.tags)
