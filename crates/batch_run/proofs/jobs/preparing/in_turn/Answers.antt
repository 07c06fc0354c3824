use Rattle.std.proofs.Common.{sym, arith}
use Rattle.batch_run.specs.Dealing.{Rounds}
use Rattle.batch_run.proofs.jobs.Piling.{one_shown}
use Rattle.batch_run.proofs.jobs.preparing.in_turn.Goals as goal

pub loop-place-preserved : goal.loop-place-preserved
loop-place-preserved c =
    let d : Rounds = record { rounds = c.args.deal.now.rounds; workers = c.args.deal.now.workers } in
    let stands = c.requires.stacked c.seat-seat.result c.seat-seat.ensures.within (rw c.seat-seat.ensures.seat (omega (arith, c.loop-place-test.true))) in
    let pile = c.index-piles-seat.result in
    let m = c.index.result.now in
    rw c.in_ok-push.ensures.items (one_shown d c.args.piles.now c.loop-place.place c.seat-seat.result c.loop-place.all.items pile pile m m c.at.result stands.0 c.loop-place.invariant c.seat-seat.ensures.seat
    (sym c.index-piles-seat.is) (sym c.index.ensures) c.at.ensures)
