use Rattle.std.proofs.lemmas.Result.{err_from_is_err_and}
use Rattle.insert_path.specs.Descent.{plan_of}
use Rattle.insert_path.proofs.Rooted.{root_cause}
use Rattle.insert_path.proofs.growth.grow.Goals as goal
use Rattle.page_store.specs.Numbers.{number_at}

pub returns-in_err-grown-in-Ok-clause-cause : goal.returns-in_err-grown-in-Ok-clause-cause
returns-in_err-grown-in-Ok-clause-cause g c =
    let p = err_from_is_err_and c.from_residual.result c.from_residual.ensures.1 in
    rw (p.1, p.2) (root_cause (plan_of (g.R.M.Metric.space (g.R.Ruler.metric c.args.ruler.now)) c.args.task.now.policy c.args.task.now.bounds (number_at c.args.task.now.numbering.numbers.now c.args.task.now.numbering.first) (record { id = c.args.task.now.object.id; tag = c.args.task.now.object.tag; point = c.args.task.now.object.point.now }))
    (g.P.Pages.shelf c.args.pages.now) (g.P.Pages.shelf c.descend.new.pages) c.args.live.now _ _ _ _ c.in-Ok.grew c.in_err-grown-in-Ok.field-0.0 c.in-Ok.ensures.descends c.in_err-grown-in-Ok.ensures.cause)
