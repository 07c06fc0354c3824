use Rattle.std.specs.BinaryHeap.{heap_items}
use Rattle.pin_cursor.proofs.Tried.{line_popped}
use Rattle.pin_cursor.proofs.line.Line.take_first.Goals as goal

pub returns-clause-some : goal.returns-clause-some
returns-clause-some g c =
    rw (← c.self.view_is)
    (line_popped g.T.Ord.cmp g.met.T.Ord.total g.met.T.TellsApart.ties_equal c.in-Some.field-0 (heap_items c.self.inside.heap) (heap_items c.pop.new.self) c.in-Some.ensures.permutation
    (c.in-Some.ensures.heap_order c.self.invariant).1)
