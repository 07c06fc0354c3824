use Rattle.std.proofs.Common.{◌≡◌, drop, max}
use Rattle.metric_mix.specs.Sets.{farthest}
use Rattle.metric_mix.proofs.sets.farthest.Given as goal

abbrev pub invariant-loop-x : goal.invariant-loop-x
invariant-loop-x l = max l.most (farthest (drop l.x-index l.a) l.b) ≡ farthest l.a l.b
