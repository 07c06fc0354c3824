use Rattle.std.proofs.Common.{◌≡◌, map, drop, ◌++◌}
use Rattle.bulk_load.specs.Postorder.{leaf_entry}
use Rattle.bulk_load.specs.Groupable.{load_of}
use Rattle.bulk_load.proofs.subtree.leaf_entries.Given as goal

abbrev pub invariant-loop-row : goal.invariant-loop-row
invariant-loop-row g l =
    let f = leaf_entry (load_of (g.M.Metric.space l.loading.metric) l.loading.rows.now.points l.loading.tags.now l.loading.fill) l.set.seed in
    l.entries.items ++ map f (drop l.row-index l.set.places.now) ≡ map f l.set.places.now
