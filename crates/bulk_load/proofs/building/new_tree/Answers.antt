use Rattle.std.proofs.Common.{◌≡◌, arith, length, rules}
use Rattle.tree_growth.specs.Bulk.{height_of}
use Rattle.page_store.specs.Numbers.{number_at}
use Rattle.bulk_load.specs.Groupable.{load_of}
use Rattle.bulk_load.proofs.Suited.{most_some}
use Rattle.bulk_load.proofs.Committed.{low, most_low, all_rows, first_few}
use Rattle.bulk_load.proofs.building.new_tree.Goals as goal

pub height_for-requires-clause-most : goal.height_for-requires-clause-most
height_for-requires-clause-most g c =
    let some = most_some (load_of (g.M.Metric.space c.args.loading.now.metric) c.args.loading.now.rows.now.points c.args.loading.now.tags.now c.args.loading.now.fill) (g.M.Metric.axioms c.args.loading.now.metric) c.requires.load in
    let few = most_low (load_of (g.M.Metric.space c.args.loading.now.metric) c.args.loading.now.rows.now.points c.args.loading.now.tags.now c.args.loading.now.fill) c.requires.load in (omega (arith, some), few)

pub add_tree-requires-clause-set : goal.add_tree-requires-clause-set
add_tree-requires-clause-set g c κs within =
    all_rows (load_of (g.M.Metric.space c.args.loading.now.metric) c.args.loading.now.rows.now.points c.args.loading.now.tags.now c.args.loading.now.fill) (g.M.Metric.axioms c.args.loading.now.metric) c.requires.load c.requires.some
    c.height_for.result c.as_slice.result.now (search rules) (search rules)

pub add_tree-requires-clause-level : goal.add_tree-requires-clause-level
add_tree-requires-clause-level g c κs within =
    let h = low (load_of (g.M.Metric.space c.args.loading.now.metric) c.args.loading.now.rows.now.points c.args.loading.now.tags.now c.args.loading.now.fill) (g.M.Metric.axioms c.args.loading.now.metric) c.requires.load c.requires.some c.requires.few in
    let same : c.height_for.result ≡ height_of c.args.loading.now.fill.most (length c.args.loading.now.rows.now.points) = search rules in omega (arith, h, same)

pub add_tree-requires-clause-few : goal.add_tree-requires-clause-few
add_tree-requires-clause-few g c κs within =
    first_few (load_of (g.M.Metric.space c.args.loading.now.metric) c.args.loading.now.rows.now.points c.args.loading.now.tags.now c.args.loading.now.fill) (g.M.Metric.axioms c.args.loading.now.metric) c.requires.load c.requires.some c.requires.few
    (number_at c.args.loading.now.numbering.numbers.now c.args.loading.now.numbering.first) c.height_for.result c.as_slice.result.now c.new-nodes.result.items (search rules) (search rules) c.new-nodes.ensures.items
