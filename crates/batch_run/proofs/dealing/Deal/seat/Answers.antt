use Rattle.batch_run.proofs.Seats.{seat_place, seat_within, round_below}
use Rattle.batch_run.proofs.dealing.Deal.seat.Goals as goal

pub returns-clause-within : goal.returns-clause-within
returns-clause-within c = seat_within c.args.self.now.rounds c.args.self.now.workers c.worker-worker.result _ (round_below c.args.place c.args.self.now.workers c.args.self.now.rounds c.requires.some.1 c.requires.place) c.worker-worker.ensures.below

pub returns-clause-seat : goal.returns-clause-seat
returns-clause-seat c = seat_place c.args.self.now.rounds c.args.self.now.workers c.args.place c.worker-worker.result
    (round_below c.args.place c.args.self.now.workers c.args.self.now.rounds c.requires.some.1 c.requires.place) (rw (← c.shift-shift.ensures.is) c.worker-worker.ensures.is)
