use Rattle.std.proofs.Common.{arith}
use Rattle.metric_laws.specs.Pruning.{gap}
use Rattle.vector_kinds.proofs.Pairs.{sum_end}
use Rattle.vector_kinds.proofs.differences.wide_sum.Goals as goal

pub returns : goal.returns
returns c =
    let none = sum_end (λ p. gap p.0 p.1) c.loop-i.i c.args.a.now c.args.b.now (omega arith) in
    omega arith
