use Rattle.std.proofs.Common.{ap}
use Rattle.std.specs.BinaryHeap.{heap_items}
use Rattle.pin_cursor.specs.Lines.{Lined}
use Rattle.pin_cursor.proofs.Tried.{line_pushed}
use Rattle.pin_cursor.proofs.line.Line.add.Goals as goal

pub returns-clause-added : goal.returns-clause-added
returns-clause-added g c =
    line_pushed g.T.Ord.cmp g.met.T.Ord.total g.met.T.TellsApart.ties_equal (record { 0 = c.args.x }) (heap_items c.self.inside.heap) (heap_items c.push.new.self) c.args.self.now.items
    c.in_ok-push.ensures.permutation (ap (λ (l : Lined g.row.T.Denot). l.items) c.self.view_is)
