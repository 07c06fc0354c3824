use Rattle.std.proofs.Common.{◌∙◌, ap, sym, length}
use Rattle.std.specs.BinaryHeap.{heap_items}
use Rattle.pin_cursor.proofs.Tried.{held_length}
use Rattle.pin_cursor.proofs.line.Line.len.Goals as goal

pub returns-clause-count : goal.returns-clause-count
returns-clause-count g c = rw (← c.self.view_is) (ap length c.as_slice.ensures.value ∙ sym (held_length g.T.Ord.cmp (heap_items c.self.inside.heap)))
