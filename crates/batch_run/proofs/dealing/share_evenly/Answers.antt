use Rattle.std.proofs.Common.{arith}
use Rattle.batch_run.specs.Dealing.{Rounds}
use Rattle.batch_run.proofs.Seats.{some_seated, ordered_meet}
use Rattle.batch_run.proofs.dealing.share_evenly.Goals as goal

pub in_order-requires-clause-seated : goal.in_order-requires-clause-seated
in_order-requires-clause-seated g c =
    let d : Rounds = record { rounds = c.of-deal.result.rounds; workers = c.of-deal.result.workers } in (
      (let o = c.in_ok-seats.seats.ok in let l = c.in_ok-seats.ensures.len in omega arith),
      (λ seat below low none. some_seated d c.args.count (λ i r. g.F.Fn.post c.args.work.now (i, tt) r) c.in_ok-seats.seats.items (λ s o at. c.in_ok-seats.ensures.each s o at) seat low none),
    )

pub returns-clause-each : goal.returns-clause-each
returns-clause-each g c =
    let d : Rounds = record { rounds = c.of-deal.result.rounds; workers = c.of-deal.result.workers } in
    ordered_meet d c.args.count (λ i r. g.F.Fn.post c.args.work.now (i, tt) r) c.in_ok-seats.seats.items (λ s o at. c.in_ok-seats.ensures.each s o at) c.in_order.result c.in_order.ensures
