use Rattle.std.proofs.Common.{◌≡◌, length}
use Rattle.batch_run.proofs.images.parts_by.Given as goal

abbrev pub invariant-loop-part : goal.invariant-loop-part
invariant-loop-part g l = length l.tried.items ≡ l._part
