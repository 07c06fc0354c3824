use Rattle.page_store.specs.Images.{bytes_in}
use Rattle.image_answers.specs.Outcomes.{ArePagesOf}
use Rattle.batch_run.specs.Jobs.Preparing.{IsPileIn}
use Rattle.batch_run.proofs.jobs.preparing.pile_of.Given as goal

abbrev pub invariant-loop-round : goal.invariant-loop-round
invariant-loop-round g l =
    IsPileIn (g.M.Metric.space l.fn.metric) l.fn.live (bytes_in l.fn.image) l.fn.show l.fn.commands (record { rounds = l.fn.deal.rounds; workers = l.fn.deal.workers }) l.round l.fn.worker l.pile
    × ArePagesOf (g.M.Metric.space l.fn.metric) l.fn.live (bytes_in l.fn.image) l.pages
