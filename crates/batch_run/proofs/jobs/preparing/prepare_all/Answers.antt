use Rattle.std.proofs.Common.{arith}
use Rattle.page_store.specs.Images.{bytes_in}
use Rattle.batch_run.specs.Dealing.{Rounds}
use Rattle.batch_run.proofs.jobs.Piling.{are_piles}
use Rattle.batch_run.proofs.jobs.preparing.prepare_all.Goals as goal

pub returns-in-Some : goal.returns-in-Some
returns-in-Some g c =
    let d : Rounds = record { rounds = c.args.deal.now.rounds; workers = c.args.deal.now.workers } in
    are_piles (g.M.Metric.space c.args.metric) c.args.live.now (bytes_in c.args.image) c.args.show c.args.commands.now d c.in_ok-tried.tried.items c.in-Some.piles.items
    (let o = c.in_ok-tried.tried.ok in omega (arith, c.in_ok-tried.ensures.len)) c.in_ok-tried.ensures.each (rw c.in-Some.is at c.in_ok-piles.ensures)
