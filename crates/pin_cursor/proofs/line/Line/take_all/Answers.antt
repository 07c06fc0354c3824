use Rattle.std.specs.BinaryHeap.{heap_items}
use Rattle.pin_cursor.proofs.Ascending.{line_ascends}
use Rattle.pin_cursor.proofs.Tried.{held}
use Rattle.pin_cursor.proofs.line.Line.take_all.Goals as goal

pub returns-clause-ascends : goal.returns-clause-ascends
returns-clause-ascends g c = line_ascends g.T.Ord.cmp g.met.T.Ord.total (held (heap_items c.replace.result))
