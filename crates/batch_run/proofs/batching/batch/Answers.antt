use Rattle.image_answers.specs.Outcomes.{IsOutcomeOf}
use Rattle.batch_run.proofs.Seats.{zipped_if_ok}
use Rattle.batch_run.proofs.batching.batch.Goals as goal

pub returns : goal.returns
returns g c = zipped_if_ok (IsOutcomeOf (g.M.Metric.space c.args.metric) c.args.live.now c.args.image.now) c.args.commands.now c.share_evenly.result c.share_evenly.ensures.len c.share_evenly.ensures.each
