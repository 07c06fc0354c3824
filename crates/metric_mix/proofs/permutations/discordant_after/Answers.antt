use Rattle.std.proofs.Common.{arith, cond, get_or}
use Rattle.vector_kinds.proofs.Published.{sum_end}
use Rattle.metric_mix.specs.Permutations.{is_discordant}
use Rattle.metric_mix.proofs.permutations.discordant_after.Goals as goal

pub returns-clause-value : goal.returns-clause-value
returns-clause-value c =
    let none = sum_end (λ q. cond (is_discordant ((get_or c.args.a.now c.args.i 0, get_or c.args.b.now c.args.i 0), q)) 1 0) c.loop-j.j c.args.a.now c.args.b.now (omega arith) in
    omega arith
