use Rattle.std.proofs.Common.{◌≡◌, true}
use Rattle.metric_mix.specs.Permutations.{holds_below}
use Rattle.metric_mix.proofs.permutations.hold_below.Given as goal

abbrev pub invariant-loop-k : goal.invariant-loop-k
invariant-loop-k l = holds_below l.k l.p ≡ true
