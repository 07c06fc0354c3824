use Rattle.std.proofs.Common.{refl, ◌≡◌}
use Rattle.metric_mix.specs.MixKinds.{mix_kind, mix_dim}
use Rattle.rows_text.specs.declared.command.Command.TheVariants as command
use Rattle.scan_model.specs.declared.query.Query.TheVariants as query
use Rattle.mtree_c.specs.Answers.{HasNoAnswer, IsUnanswered, status_of}
use Rattle.mtree_c.proofs.Coming.{err_by, unanswered}
use Rattle.mtree_c.proofs.answering.nearest_answer.Goals as goal

pub returns-clause-unanswered : goal.returns-clause-unanswered
returns-clause-unanswered c =
    let came = c.nearest_outcome.result in
    err_by c.answer_of.result (λ n. (n ≡ status_of came) × IsUnanswered came) (HasNoAnswer c.args.file.now (command.Nearest c.args.count c.args.point.now))
    (λ n why. unanswered c.args.file.now c.in_ok-head.head c.in_ok-head.live (command.Nearest c.args.count c.args.point.now) (query.Nearest c.args.point.now c.args.count)
    (mix_kind c.space_of.result) (mix_dim c.space_of.result) n c.in_ok-head.ensures.opens c.in_ok-head.ensures.version c.space_of.ensures.kind c.space_of.ensures.dim refl came
    (rw c.in-Ok.ensures at c.nearest_outcome.ensures) why.0 why.1)
    c.answer_of.ensures.unanswered
