use Rattle.std.proofs.Common.{◌≡◌, ◌+◌, ◌*◌, ◌%◌, ◌^◌, ◌≤◌, drop}
use Rattle.std.specs.Prelude.{sum_by}
use Rattle.std.specs.List.{zip}
use Rattle.metric_laws.specs.Pruning.{gap}
use Rattle.vector_kinds.proofs.differences.narrow_sum.Given as goal

-- the sum is right but for what went beyond 32 bits, and no difference is greater than all their bits together
abbrev pub invariant-loop-i : goal.invariant-loop-i
invariant-loop-i l = record {
  summed : (l.sum + sum_by (λ p. gap p.0 p.1) (zip (drop l.i l.a) (drop l.i l.b))) % 2 ^ 32 ≡ sum_by (λ p. gap p.0 p.1) (zip l.a l.b) % 2 ^ 32;
  bounded : sum_by (λ p. gap p.0 p.1) (zip l.a l.b) ≤ l.i * l.bits + sum_by (λ p. gap p.0 p.1) (zip (drop l.i l.a) (drop l.i l.b));
}
