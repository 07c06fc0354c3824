use Rattle.std.proofs.Common.{◌∙◌, sym, arith}
use Rattle.metric_mix.proofs.SetPasses.{ascends, alone}
use Rattle.metric_mix.proofs.sets.is_spelled.Goals as goal

pub loop-i-preserved : goal.loop-i-preserved
loop-i-preserved c =
    let known = c.in-Some.ensures in
    sym (ascends c.loop-i.i c.args.p.now (omega arith) (omega arith)) ∙ c.loop-i.invariant

pub returns : goal.returns
returns c =
    let known = c.in-Some.ensures in
    sym (alone c.loop-i.i c.args.p.now (omega arith)) ∙ c.loop-i.invariant
