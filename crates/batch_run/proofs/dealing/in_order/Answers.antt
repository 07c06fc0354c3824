use Rattle.std.proofs.Common.{◌<◌, ◌∙◌, length, length-set, sym, arith}
use Rattle.batch_run.specs.Dealing.{Rounds}
use Rattle.batch_run.proofs.Seats.{left_on, done_on}
use Rattle.batch_run.proofs.dealing.in_order.Goals as goal

pub loop-place-preserved : goal.loop-place-preserved
loop-place-preserved g c =
    let d : Rounds = record { rounds = c.args.deal.now.rounds; workers = c.args.deal.now.workers } in
    let low : c.seat-seat.result < length c.loop-place.seats.items = omega (arith, c.seat-seat.ensures.within, c.loop-place.invariant.many, c.requires.seated.0) in
    record {
      many = length-set c.loop-place.seats.items c.seat-seat.result c.take.new.self ∙ c.loop-place.invariant.many;
      left = left_on d c.args.seats.items c.loop-place.place c.seat-seat.result c.loop-place.seats.items c.take.new.self c.seat-seat.ensures.seat c.loop-place.invariant.left;
      done = rw c.in_ok-push-in-Some.ensures.items (done_on d c.args.seats.items c.loop-place.place c.seat-seat.result c.loop-place.seats.items c.loop-place.all.items c.in_ok-found-in-Some.field-0 c.in-Some.found c.index_mut.result.now
          c.seat-seat.ensures.seat low c.loop-place.invariant.left c.index_mut.ensures.value (sym c.take.ensures.value ∙ c.in-Some.is) c.in_ok-found-in-Some.was c.loop-place.invariant.done);
    }
