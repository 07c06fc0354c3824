use Rattle.std.proofs.Common.{◌≡◌, ◌++◌, map, Ok}
use Rattle.batch_run.proofs.gathering.all_done.Given as goal

abbrev pub invariant-loop-one : goal.invariant-loop-one
invariant-loop-one g l = l.fn.tried.items ≡ map (λ x. Ok x) l.all.items ++ l.one-iterator.rest.items
