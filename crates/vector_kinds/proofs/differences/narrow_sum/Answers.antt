use Rattle.std.proofs.Common.{◌+◌, ◌*◌, ◌-◌, ◌^◌, ◌≤◌, ℕ, arith}
use Rattle.std.proofs.Math.Nat.{mul-le-mul_left}
use Rattle.std.proofs.lemmas.Nat.{le_or_l, le_or_r, mul-le}
use Rattle.metric_laws.specs.Pruning.{gap}
use Rattle.vector_kinds.proofs.Pairs.{sum_more, sum_end}
use Rattle.vector_kinds.proofs.differences.narrow_sum.Goals as goal

-- one place more
step : (i bits d most : ℕ) → bits ≤ most → d ≤ most → i * bits + d ≤ (i + 1) * most
step i bits d most before now = omega (arith, mul-le-mul_left i before)

pub loop-i-preserved : goal.loop-i-preserved
loop-i-preserved c =
    let d = c.abs_diff-difference.result in
    let next = sum_more (λ p. gap p.0 p.1) c.loop-i.i c.args.a.now c.args.b.now (omega arith) (omega arith) in
    record {
      summed = omega (arith, next);
      bounded = omega (arith, next, step c.loop-i.i c.loop-i.bits d _ (le_or_l c.loop-i.bits d) (le_or_r c.loop-i.bits d));
    }

pub returns-then-bits-lt-WIDE : goal.returns-then-bits-lt-WIDE
returns-then-bits-lt-WIDE c =
    let none = sum_end (λ p. gap p.0 p.1) c.loop-i.i c.args.a.now c.args.b.now (omega arith) in
    let few = mul-le c.loop-i.i c.loop-i.bits 64 (2 ^ 26 - 1) (omega arith) (omega arith) in
    omega (arith, none, few)
