use Rattle.std.proofs.Common.{◌≡◌, drop}
use Rattle.metric_mix.specs.Sets.{is_spelled}
use Rattle.metric_mix.proofs.sets.is_spelled.Given as goal

abbrev pub invariant-loop-i : goal.invariant-loop-i
invariant-loop-i l = is_spelled (drop l.i l.p) ≡ is_spelled l.p
