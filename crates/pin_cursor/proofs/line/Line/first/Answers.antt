use Rattle.std.proofs.Common.{rules, sym}
use Rattle.std.specs.BinaryHeap.{heap_items}
use Rattle.pin_cursor.proofs.Ascending.{line_ascends}
use Rattle.pin_cursor.proofs.Tried.{held, top_first}
use Rattle.pin_cursor.proofs.line.Line.first.Goals as goal

pub returns-in-Some-clause-some : goal.returns-in-Some-clause-some
returns-in-Some-clause-some g c =
    rw (← c.self.view_is) (top_first g.T.Ord.cmp c.in-Some.field-0.now (heap_items c.self.inside.heap) (c.in-Some.ensures.greatest c.self.invariant) (search rules) (sym c.in-Some.ensures.lookup))

pub returns-in-Some-clause-ascends : goal.returns-in-Some-clause-ascends
returns-in-Some-clause-ascends g c = rw (← c.self.view_is) (line_ascends g.T.Ord.cmp g.met.T.Ord.total (held (heap_items c.self.inside.heap)))
