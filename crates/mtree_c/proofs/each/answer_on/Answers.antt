use Rattle.std.proofs.Common.{◌≡◌}
use Rattle.metric_mix.specs.MixKinds.{mix_kind, mix_dim}
use Rattle.page_store.specs.Images.{bytes_in}
use Rattle.mtree_c.specs.Answers.{HasNoAnswer, IsUnanswered, status_of}
use Rattle.mtree_c.specs.Each.{command_of}
use Rattle.mtree_c.proofs.Coming.{err_by}
use Rattle.mtree_c.proofs.Collecting.{comes_to, pages_by, pages_of, without}
use Rattle.mtree_c.proofs.each.answer_on.Goals as goal

pub outcome_of-requires-clause-pages : goal.outcome_of-requires-clause-pages
outcome_of-requires-clause-pages c = λ _.
    pages_by (mix_kind c.space_of.result) (mix_dim c.space_of.result) c.args.opened.now.0 c.args.opened.now.1 c.space_of.ensures.kind c.space_of.ensures.dim (bytes_in c.args.pages.now.inner.image) c.args.pages.now
    c.requires.opened.behind

pub returns-clause-answered : goal.returns-clause-answered
returns-clause-answered c =
    let opened = c.requires.opened in
    comes_to (mix_kind c.space_of.result) (mix_dim c.space_of.result) c.args.opened.now.0 c.args.opened.now.1 c.space_of.ensures.kind c.space_of.ensures.dim (bytes_in c.args.pages.now.inner.image)
    (command_of c.args.ask c.args.point.now) opened.opens opened.version c.outcome_of.result c.outcome_of.ensures.whole c.answer_of.result c.answer_of.ensures.answered

pub returns-clause-unanswered : goal.returns-clause-unanswered
returns-clause-unanswered c =
    let opened = c.requires.opened in
    let came = c.outcome_of.result in
    let file = bytes_in c.args.pages.now.inner.image in
    err_by c.answer_of.result (λ n. (n ≡ status_of came) × IsUnanswered came) (HasNoAnswer file (command_of c.args.ask c.args.point.now))
    (λ n why. without (mix_kind c.space_of.result) (mix_dim c.space_of.result) c.args.opened.now.0 c.args.opened.now.1 c.space_of.ensures.kind c.space_of.ensures.dim file c.args.ask c.args.point.now n
    opened.opens opened.version came c.outcome_of.ensures.whole why.0 why.1)
    c.answer_of.ensures.unanswered

pub returns-clause-same : goal.returns-clause-same
returns-clause-same c =
    let opened = c.requires.opened in
    record {
      opens = opened.opens;
      version = opened.version;
      valid = opened.valid;
      few = opened.few;
      behind = pages_of (mix_kind c.space_of.result) (mix_dim c.space_of.result) c.args.opened.now.0 c.args.opened.now.1 c.space_of.ensures.kind c.space_of.ensures.dim (bytes_in c.args.pages.now.inner.image)
          c.outcome_of.new.pages c.outcome_of.ensures.same;
    }
