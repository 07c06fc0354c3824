use Rattle.std.proofs.Common.{◌≤◌, ap, arith, length}
use Rattle.std.specs.BinaryHeap.{heap_items}
use Rattle.pin_cursor.specs.Lines.{Lined}
use Rattle.pin_cursor.proofs.Tried.{held_length, line_joined}
use Rattle.pin_cursor.proofs.line.Line.join.Goals as goal

pub unreachable-requires : goal.unreachable-requires
unreachable-requires g c =
    let items = held_length g.T.Ord.cmp (heap_items c.other.inside.heap) in
    let other = ap (λ (l : Lined g.row.T.Denot). length l.items) c.other.view_is in
    let room = ap (λ (l : Lined g.row.T.Denot). l.room) c.self.view_is in
    let few : length c.args.other.items ≤ c.args.self.now.room = c.requires in
    let full = c.in-Err.ensures.full in
    let fit = c.self.inside.heap.data.ok in
    let same = c.other.inside.heap.data.ok in
    omega arith

pub returns : goal.returns
returns g c =
    line_joined g.T.Ord.cmp g.met.T.Ord.total g.met.T.TellsApart.ties_equal (heap_items c.self.inside.heap) (heap_items c.other.inside.heap) (heap_items c.append.new.self) c.args.self.now.items
    c.args.other.items c.in-Ok.ensures.permutation (ap (λ (l : Lined g.row.T.Denot). l.items) c.self.view_is) (ap (λ (l : Lined g.row.T.Denot). l.items) c.other.view_is)
