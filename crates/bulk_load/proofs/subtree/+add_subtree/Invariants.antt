use Rattle.page_store.specs.Numbers.{number_at}
use Rattle.bulk_load.specs.Groupable.{load_of}
use Rattle.bulk_load.proofs.Looped.{Loops}
use Rattle.bulk_load.proofs.subtree.+add_subtree.Given as goal

abbrev pub decreases-add_subtree : goal.decreases-add_subtree
decreases-add_subtree g l = l.set.now.level

abbrev pub invariant-loop-group : goal.invariant-loop-group
invariant-loop-group g l =
    Loops (load_of (g.M.Metric.space l.loading.metric) l.loading.rows.now.points l.loading.tags.now l.loading.fill) (number_at l.loading.numbering.numbers.now l.loading.numbering.first)
    l.set.level l.set.seed l.set.places.now l.fn.nodes.items l.nodes.items l.entries.items l.group-iterator.rest.items
