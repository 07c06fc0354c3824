use Rattle.std.proofs.Common.{◌≡◌, take}
use Rattle.free_pages.proofs.free.Free.least.Given as goal

abbrev pub invariant-loop-place : goal.invariant-loop-place
invariant-loop-place l = l.least.items ≡ take l.place l.self.free
