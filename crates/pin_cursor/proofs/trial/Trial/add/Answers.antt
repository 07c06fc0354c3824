use Rattle.std.proofs.Common.{arith}
use Rattle.pin_cursor.proofs.Tried.{one_longer, waits_added}
use Rattle.pin_cursor.proofs.trial.Trial.add.Goals as goal

pub returns-clause-waits : goal.returns-clause-waits
returns-clause-waits g c =
    rw (c.reserve.ensures.items, ← c.self.view_is)
    (waits_added g.T.Ord.cmp g.met.T.Ord.total g.met.T.TellsApart.ties_equal c.args.x c.self.inside.left.items c.self.inside.added.items c.add.new.self.items c.in_ok-add.ensures.added)

pub invariant_of-self-2 : goal.invariant_of-self-2
invariant_of-self-2 g c =
    let fit = c.self.invariant in let kept = c.reserve.ensures.kept in let room = c.in_ok-reserve.ensures.room in let count = c.len.ensures.count in
    let more = one_longer g.T.Ord.cmp c.args.x c.self.inside.added.items c.add.new.self.items c.in_ok-add.ensures.added in
    (omega arith, omega arith)
