use Rattle.std.proofs.Common.{◌∙◌, ap, take, drop, ◌*◌, ℕ, List, subst, rules, arith}
use Rattle.std.proofs.lemmas.Result.{err_from_is_err_and}
use Rattle.page_store.specs.Images.{bytes_in}
use Rattle.rows_text.specs.declared.reply.Reply.TheVariants as reply
use Rattle.std.specs.Prelude.{Some}
use Rattle.image_answers.specs.declared.outcome.Outcome.TheVariants as outcome
use Rattle.mtree_c.specs.Answers.{ComesTo, HasNoAnswer}
use Rattle.mtree_c.specs.Each.{IsOpened, command_of}
use Rattle.mtree_c.proofs.Collecting.{all_rows, next_row, row_without}
use Rattle.mtree_c.proofs.each.answer_rows.Goals as goal

pub returns-in_err-answer-clause-unanswered : goal.returns-in_err-answer-clause-unanswered
returns-in_err-answer-clause-unanswered c =
    let file = bytes_in c.args.pages.now.inner.image in
    let head = c.args.opened.now.0 in
    let point = c.row_of.ensures ∙ ap (λ (w : ℕ). take w (drop (c.loop-i.i * w) c.args.points.now)) c.from-dimension.ensures in
    let status = c.in_err-answer.field-0.0 in
    let none =
    subst (λ (p : List ℕ). HasNoAnswer file (command_of c.args.ask p) status) point
    (subst (λ (x : List ℕ). HasNoAnswer x (command_of c.args.ask c.row_of.result.now) status) c.loop-i.invariant.opened.behind.bytes c.in_err-answer.ensures.unanswered) in
    let p = err_from_is_err_and c.from_residual.result c.from_residual.ensures.1 in
    rw (p.1, p.2)
    (row_without file c.args.ask head c.args.opened.now.1 c.args.points.now c.args.rows c.loop-i.i status c.requires.opened.opens c.requires.opened.version (search rules) none)

pub loop-i-preserved : goal.loop-i-preserved
loop-i-preserved c =
    let file = bytes_in c.args.pages.now.inner.image in
    let head = c.args.opened.now.0 in
    let a = c.in_ok-answer.answer in
    let bytes = c.loop-i.invariant.opened.behind.bytes in
    let point = c.row_of.ensures ∙ ap (λ (w : ℕ). take w (drop (c.loop-i.i * w) c.args.points.now)) c.from-dimension.ensures in
    let comes =
    subst (λ (p : List ℕ). ComesTo file (command_of c.args.ask p) (outcome.Done (reply.Hits a.hits a.tags) (Some a.log))) point
    (subst (λ (x : List ℕ). ComesTo x (command_of c.args.ask c.row_of.result.now) (outcome.Done (reply.Hits a.hits a.tags) (Some a.log))) bytes c.in_ok-answer.ensures.answered) in
    record {
      opened = subst (λ (x : List ℕ). IsOpened x head c.args.opened.now.1 c.answer_on.new.pages) bytes c.answer_on.ensures.same;
      answered = next_row file c.args.ask head.dim c.args.rows c.loop-i.i c.args.points.now c.loop-i.joined.hits.items c.push_answer.new.joined.hits.items
          c.loop-i.joined.counts.items c.push_answer.new.joined.counts.items a.hits a.tags a.log (search rules) c.in_ok-answer.ensures.each c.loop-i.invariant.answered comes
          (search rules) (search rules);
    }

pub returns-clause-answered : goal.returns-clause-answered
returns-clause-answered c =
    all_rows (bytes_in c.args.pages.now.inner.image) c.args.ask c.args.opened.now.0 c.args.opened.now.1 c.args.rows c.loop-i.i c.args.points.now c.loop-i.joined.hits.items c.loop-i.joined.counts.items
    c.requires.opened.opens c.requires.opened.version c.requires.long (omega arith) c.loop-i.invariant.answered
