use Rattle.std.proofs.Common.{◌-◌}
use Rattle.bulk_load.specs.Groupable.{load_of}
use Rattle.bulk_load.proofs.Moved.{apart_few}
use Rattle.bulk_load.proofs.sharing.made_of.Goals as goal

pub add_subtree-requires-clause-few : goal.add_subtree-requires-clause-few
add_subtree-requires-clause-few g c κs within =
    apart_few (load_of (g.M.Metric.space c.args.loading.now.metric) c.args.loading.now.rows.now.points c.args.loading.now.tags.now c.args.loading.now.fill) (g.M.Metric.axioms c.args.loading.now.metric) c.requires.load c.requires.rows
    (c.args.set.now.level - 1) c.args.group.now c.as_slice.result.now c.new-nodes.result.items c.requires.group c.as_slice.ensures c.new-nodes.ensures.items
