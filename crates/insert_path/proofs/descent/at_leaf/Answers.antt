use Rattle.std.proofs.Common.{ap}
use Rattle.metric_laws.specs.Space.{Space}
use Rattle.tree_shape.specs.declared.entry.Node.TheVariants.{Leaf}
use Rattle.insert_path.specs.Descent.{plan_of, leaf_ball, leaf_with}
use Rattle.insert_path.proofs.Staged.{staged_by, leaf_added}
use Rattle.insert_path.proofs.descent.at_leaf.Goals as goal
use Rattle.page_store.specs.Numbers.{number_at}

pub returns-clause-staged : goal.returns-clause-staged
returns-clause-staged g c =
    staged_by (λ (s : Space). plan_of s c.args.task.now.policy c.args.task.now.bounds (number_at c.args.task.now.numbering.numbers.now c.args.task.now.numbering.first) (record { id = c.args.task.now.object.id; tag = c.args.task.now.object.tag; point = c.args.task.now.object.point.now }))
    _ _ leaf_ball leaf_with Leaf _ _ c.args.nodes.now.items _ _ (ap g.R.M.Metric.space c.parent_of-parent.ensures.metric)
    (leaf_added _ _ _ _ _ _ c.args.entries.items _ c.in_ok-push.ensures.items c.parent_of-parent.ensures.dist c.in_ok-point.ensures)
    c.in_ok-grew.ensures.staged
