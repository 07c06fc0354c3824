use Rattle.std.proofs.Common.{rules, sym}
use Rattle.std.specs.BinaryHeap.{heap_items}
use Rattle.nearest_search.proofs.Held.{held-popped, is_least}
use Rattle.nearest_search.proofs.queue.MinQueue.take_first.Goals as goal

pub returns-clause-some : goal.returns-clause-some
returns-clause-some g c =
    rw (← c.self.view_is) (held-popped c.in-Some.field-0 (heap_items c.self.inside.heap) (heap_items c.pop.new.self) c.in-Some.ensures.permutation)

pub returns-clause-first : goal.returns-clause-first
returns-clause-first g c =
    rw (← c.self.view_is) (is_least g.T.Ord.cmp c.in-Some.field-0 (heap_items c.self.inside.heap) (c.in-Some.ensures.heap_order c.self.invariant).1 (search rules) (sym c.in-Some.ensures.top))
