use Rattle.std.proofs.Common.{◌≡◌, ◌+◌, ◌*◌, ◌≤◌, drop}
use Rattle.std.specs.Prelude.{sum_by}
use Rattle.std.specs.List.{zip}
use Rattle.metric_laws.specs.Pruning.{gap}
use Rattle.vector_kinds.proofs.differences.plain_sum.Given as goal

abbrev pub invariant-loop-i : goal.invariant-loop-i
invariant-loop-i l = record {
  small : l.sum ≤ l.i * 4294967295;
  summed : l.sum + sum_by (λ p. gap p.0 p.1) (zip (drop l.i l.a) (drop l.i l.b)) ≡ sum_by (λ p. gap p.0 p.1) (zip l.a l.b);
}
