use Rattle.std.proofs.Common.{◌≡◌, take, drop, ◌++◌}
use Rattle.mtree_c.specs.Answers.{tagged}
use Rattle.mtree_c.proofs.rooms.put_hits.Given as goal

abbrev pub invariant-loop-i : goal.invariant-loop-i
invariant-loop-i l = l.room ≡ tagged (take l.i l.hits) (take l.i l.tags) ++ drop l.i l.fn.room
