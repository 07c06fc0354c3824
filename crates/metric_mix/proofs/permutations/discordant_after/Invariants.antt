use Rattle.std.proofs.Common.{◌≡◌, ◌+◌, ◌≤◌, drop, get_or}
use Rattle.std.specs.Prelude.{count_by}
use Rattle.std.specs.List.{zip}
use Rattle.metric_mix.specs.Permutations.{is_discordant}
use Rattle.metric_mix.proofs.permutations.discordant_after.Given as goal

abbrev pub invariant-loop-j : goal.invariant-loop-j
invariant-loop-j l = record {
  few : l.count ≤ l.j;
  counted : l.count + count_by (λ q. is_discordant ((get_or l.a l.i 0, get_or l.b l.i 0), q)) (zip (drop l.j l.a) (drop l.j l.b))
      ≡ count_by (λ q. is_discordant ((get_or l.a l.i 0, get_or l.b l.i 0), q)) (zip (drop (l.i + 1) l.a) (drop (l.i + 1) l.b));
}
