use Rattle.std.proofs.Common.{◌≡◌, ◌+◌, ◌≤◌, drop}
use Rattle.std.specs.Prelude.{◌==◌, not, count_by}
use Rattle.std.specs.List.{zip}
use Rattle.vector_kinds.proofs.differences.count.Given as goal

abbrev pub invariant-loop-i : goal.invariant-loop-i
invariant-loop-i l = record {
  few : l.differing ≤ l.i;
  counted : l.differing + count_by (λ p. not (p.0 == p.1)) (zip (drop l.i l.a) (drop l.i l.b)) ≡ count_by (λ p. not (p.0 == p.1)) (zip l.a l.b);
}
