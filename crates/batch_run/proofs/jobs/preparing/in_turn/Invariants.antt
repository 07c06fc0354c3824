use Rattle.batch_run.specs.Jobs.Preparing.{AreShown}
use Rattle.batch_run.proofs.jobs.preparing.in_turn.Given as goal

abbrev pub invariant-loop-place : goal.invariant-loop-place
invariant-loop-place l = AreShown (record { rounds = l.fn.deal.rounds; workers = l.fn.deal.workers }) l.place l.fn.piles l.all.items
