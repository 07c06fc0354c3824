use Rattle.std.proofs.Common.{arith, sym}
use Rattle.std.proofs.Math.Bool.{and-true}
use Rattle.vector_kinds.proofs.Words.{all_words}
use Rattle.vector_kinds.proofs.differences.has_places.Goals as goal

pub returns : goal.returns
returns c =
    let all = all_words c.args.p.now (λ i. omega (arith, c.type_inv.p i)) in
    rw (all, c.from.ensures) (sym (and-true _))
