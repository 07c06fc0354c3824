use Rattle.std.proofs.Common.{◌≡◌, max, drop}
use Rattle.tree_growth.specs.Bulk.{point_of, radius_of}
use Rattle.bulk_load.specs.Groupable.{load_of}
use Rattle.bulk_load.proofs.subtree.radius.Given as goal

abbrev pub invariant-loop-row : goal.invariant-loop-row
invariant-loop-row g l =
    let L = load_of (g.M.Metric.space l.loading.metric) l.loading.rows.now.points l.loading.tags.now l.loading.fill in
    max l.greatest (radius_of L (point_of L l.seed) (drop l.row-index l.members)) ≡ radius_of L (point_of L l.seed) l.members
