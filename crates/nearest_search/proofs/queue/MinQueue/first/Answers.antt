use Rattle.std.proofs.Common.{rules, sym}
use Rattle.std.specs.BinaryHeap.{heap_items}
use Rattle.nearest_search.proofs.Held.{is_least}
use Rattle.nearest_search.proofs.queue.MinQueue.first.Goals as goal

pub returns-in-Some-clause-some : goal.returns-in-Some-clause-some
returns-in-Some-clause-some g c =
    rw (← c.self.view_is) (is_least g.T.Ord.cmp c.in-Some.field-0.now (heap_items c.self.inside.heap) (c.in-Some.ensures.greatest c.self.invariant) (search rules) (sym c.in-Some.ensures.lookup))
