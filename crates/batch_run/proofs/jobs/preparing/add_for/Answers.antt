use Rattle.std.proofs.lemmas.Result.{on_ok_weaker}
use Rattle.page_store.specs.Images.{bytes_in}
use Rattle.batch_run.proofs.jobs.Given.{given_can, given_more}
use Rattle.batch_run.proofs.jobs.preparing.add_for.Goals as goal

pub add-requires : goal.add-requires
add-requires g c =
    given_can (g.M.Metric.space c.args.metric) c.args.live.now (bytes_in c.args.pages.now.inner.image) c.args.command.now c.args.show c.in_ok-outcome.outcome c.in_ok-outcome.ensures.given

pub returns-clause-more : goal.returns-clause-more
returns-clause-more g c = on_ok_weaker c.add.result
    (given_more (g.M.Metric.space c.args.metric) c.args.live.now (bytes_in c.args.pages.now.inner.image) c.args.command.now c.args.show c.in_ok-outcome.outcome c.in_ok-outcome.ensures.given c.args.pile.now c.add.new.self)
    c.add.ensures
