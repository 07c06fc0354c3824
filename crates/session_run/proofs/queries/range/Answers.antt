use Rattle.std.proofs.Common.{refl, ap, ◌∙◌, subst, List, ℕ, Ok}
use Rattle.rows_text.specs.declared.command.Command.TheVariants as command
use Rattle.scan_model.specs.declared.query.Query.TheVariants as query
use Rattle.index_core.specs.Answers.{HasSearched}
use Rattle.index_core.specs.Index.{OpenIndex}
use Rattle.session_run.proofs.Asking.{query_stepped, range_fault}
use Rattle.session_run.proofs.queries.range.Goals as goal

pub returns-in_ok-found_answer-in-Ok-clause-stepped : goal.returns-in_ok-found_answer-in-Ok-clause-stepped
returns-in_ok-found_answer-in-Ok-clause-stepped g c = λ cursors.
    query_stepped (g.M.Metric.space c.args.index.now.file.metric) c.args.show c.args.index.now c.range.new.self cursors (g.D.Disk.state c.args.disk.now) (g.D.Disk.state c.range.new.disk)
    (command.Range c.args.r c.args.q.now) (query.Range c.args.q.now c.args.r) c.in-Ok.found _ c.is_valid.ensures (c.requires.stands c.requires.going)
    (ap (λ (i : OpenIndex g.row.M.Denot). i.stopped) c.range.ensures.rest ∙ c.requires.going) c.range.ensures.reads
    (subst (λ (q : List ℕ). HasSearched (g.M.Metric.space c.args.index.now.file.metric) c.args.index.now.file (query.Range q c.args.r) (g.D.Disk.state c.args.disk.now) (g.D.Disk.state c.range.new.disk) (Ok c.in-Ok.found))
    c.as_slice.ensures (c.in-Ok.ensures.searched c.requires.going))
    c.in_ok-found_answer-in-Ok.ensures (rw c.requires.point refl) (rw c.requires.point refl)

pub returns-in-Err-clause-stepped : goal.returns-in-Err-clause-stepped
returns-in-Err-clause-stepped g c = λ cursors. rw c.answer_of_fault.ensures
    (range_fault (g.M.Metric.space c.args.index.now.file.metric) c.args.show c.args.index.now c.range.new.self cursors (g.D.Disk.state c.args.disk.now) (g.D.Disk.state c.range.new.disk)
    (command.Range c.args.r c.args.q.now) c.as_slice.result.now c.args.r c.in-Err.fault c.is_valid.ensures (c.requires.stands c.requires.going) c.range.ensures.reads
    (c.in-Err.ensures.cause c.requires.going) (λ sound. (c.in-Err.ensures.searched c.requires.going).undamaged sound) c.in-Err.ensures.damage)
