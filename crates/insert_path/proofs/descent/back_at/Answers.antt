use Rattle.std.proofs.Common.{ap}
use Rattle.metric_laws.specs.Space.{Space}
use Rattle.tree_shape.specs.declared.entry.Node.TheVariants.{Inner}
use Rattle.insert_path.specs.Walk.{inner_ball}
use Rattle.insert_path.specs.Descent.{plan_of, inner_with}
use Rattle.insert_path.proofs.Staged.{staged_by}
use Rattle.insert_path.proofs.descent.back_at.Goals as goal
use Rattle.page_store.specs.Numbers.{number_at}

pub returns-clause-staged : goal.returns-clause-staged
returns-clause-staged g c =
    staged_by (λ (s : Space). plan_of s c.args.task.now.policy c.args.task.now.bounds (number_at c.args.task.now.numbering.numbers.now c.args.task.now.numbering.first) (record { id = c.args.task.now.object.id; tag = c.args.task.now.object.tag; point = c.args.task.now.object.point.now }))
    _ _ inner_ball inner_with (Inner c.args.spot.now.level) _ _ c.args.nodes.now.items _ _ (ap g.R.M.Metric.space c.in_ok-regrow.ensures.metric)
    c.in_ok-regrow.ensures.entries
    c.in_ok-grew.ensures.staged
