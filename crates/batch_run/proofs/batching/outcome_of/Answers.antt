use Rattle.std.proofs.Common.{None, refl}
use Rattle.page_store.specs.Images.{bytes_in}
use Rattle.rows_text.specs.declared.command.Command.TheVariants as command
use Rattle.rows_text.specs.declared.reply.Reply.TheVariants as reply
use Rattle.image_answers.specs.declared.outcome.Outcome.TheVariants as outcome
use Rattle.image_answers.proofs.Published.{given_plain}
use Rattle.batch_run.proofs.Counting.{count_is}
use Rattle.batch_run.proofs.batching.outcome_of.Goals as goal

pub returns-in-Count-clause-given : goal.returns-in-Count-clause-given
returns-in-Count-clause-given g c = rw (c.in-Count.is, c.plain.ensures)
    (given_plain (g.M.Metric.space c.args.metric) c.args.live.now (bytes_in c.args.pages.now.inner.image) command.Count c.args.tags (outcome.Done (reply.Count c.args.live.now.count) None) refl
    (count_is (g.M.Metric.space c.args.metric) c.args.live.now (bytes_in c.args.pages.now.inner.image)))

pub returns-in-Count-clause-whole : goal.returns-in-Count-clause-whole
returns-in-Count-clause-whole g c = λ is. rw (c.in-Count.is, c.plain.ensures) (count_is (g.M.Metric.space c.args.metric) c.args.live.now (bytes_in c.args.pages.now.inner.image))
