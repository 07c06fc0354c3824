use Rattle.std.proofs.Common.{arith, cond}
use Rattle.std.specs.Prelude.{◌==◌, not}
use Rattle.vector_kinds.proofs.Pairs.{sum_end}
use Rattle.vector_kinds.proofs.differences.count.Goals as goal

pub returns : goal.returns
returns c =
    let none = sum_end (λ p. cond (not (p.0 == p.1)) 1 0) c.loop-i.i c.args.a.now c.args.b.now (omega arith) in
    omega arith
