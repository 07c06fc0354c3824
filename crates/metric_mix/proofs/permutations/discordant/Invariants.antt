use Rattle.std.proofs.Common.{◌≡◌, ◌+◌, ◌*◌, ◌≤◌, drop}
use Rattle.metric_mix.specs.Discordance.{discord}
use Rattle.metric_mix.proofs.permutations.discordant.Given as goal

abbrev pub invariant-loop-i : goal.invariant-loop-i
invariant-loop-i l = record {
  few : l.count ≤ 64 * l.i;
  counted : l.count + discord (drop l.i l.a) (drop l.i l.b) ≡ discord l.a l.b;
}
