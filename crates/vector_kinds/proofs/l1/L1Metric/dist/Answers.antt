use Rattle.std.proofs.Common.{◌∙◌, arith, ◌-◌, ◌^◌}
use Rattle.std.specs.List.{zip}
use Rattle.vector_kinds.proofs.Folds.{limited_sum}
use Rattle.vector_kinds.proofs.l1.L1Metric.dist.Goals as goal

pub returns-else-a-le-LONGEST-clause-value :
    goal.returns-else-a-le-LONGEST-clause-value
returns-else-a-le-LONGEST-clause-value c =
    let same = c.saturating_sum.ensures ∙ limited_sum (2 ^ 64 - 1) (zip c.args.a.now c.args.b.now) in
    omega arith
