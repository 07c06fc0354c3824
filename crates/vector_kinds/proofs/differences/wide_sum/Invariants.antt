use Rattle.std.proofs.Common.{◌≡◌, ◌+◌, ◌*◌, ◌≤◌, drop}
use Rattle.std.specs.Prelude.{sum_by}
use Rattle.std.specs.List.{zip}
use Rattle.metric_laws.specs.Pruning.{gap}
use Rattle.vector_kinds.proofs.differences.wide_sum.Given as goal

abbrev pub invariant-loop-i : goal.invariant-loop-i
invariant-loop-i l = record {
  low_small : l.low ≤ l.i * 65535;
  high_small : l.high ≤ l.i * 65535;
  summed : l.high * 65536 + l.low + sum_by (λ p. gap p.0 p.1) (zip (drop l.i l.a) (drop l.i l.b)) ≡ sum_by (λ p. gap p.0 p.1) (zip l.a l.b);
}
