use Rattle.page_store.specs.Numbers.{number_at}
use Rattle.bulk_load.specs.Groupable.{load_of}
use Rattle.bulk_load.proofs.Joined.{Joins}
use Rattle.bulk_load.proofs.sharing.add_tree.Given as goal

abbrev pub invariant-loop-part : goal.invariant-loop-part
invariant-loop-part g l =
    Joins (load_of (g.M.Metric.space l.loading.metric) l.loading.rows.now.points l.loading.tags.now l.loading.fill) (number_at l.loading.numbering.numbers.now l.loading.numbering.first)
    l.set.level l.set.seed l.set.places.now l.fn.nodes.items l.nodes.items l.entries.items l.groups.items l.part-iterator.rest.items
