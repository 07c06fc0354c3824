use Rattle.std.proofs.Common.{◌∙◌}
use Rattle.vector_kinds.proofs.Folds.{greatest_gap}
use Rattle.vector_kinds.proofs.max.MaxMetric.dist.Goals as goal

pub returns-clause-value : goal.returns-clause-value
returns-clause-value c = c.from.ensures ∙ c.greatest.ensures ∙ greatest_gap c.args.a.now c.args.b.now
