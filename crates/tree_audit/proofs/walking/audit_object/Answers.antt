use Rattle.std.proofs.Common.{sym, ◌∙◌}
use Rattle.std.proofs.lemmas.Result.{err_from_is_err_and}
use Rattle.tree_shape.specs.Entries.{leaf_of}
use Rattle.tree_audit.specs.Audited.{last_point}
use Rattle.tree_audit.proofs.Entries.{told_same, object_inside}
use Rattle.tree_audit.proofs.walking.audit_object.Goals as goal

pub returns-in_err-audit_inside-clause-err : goal.returns-in_err-audit_inside-clause-err
returns-in_err-audit_inside-clause-err g c =
    let p = err_from_is_err_and c.from_residual.result c.from_residual.ensures.1 in
    let s = g.R.M.Metric.space (g.R.Ruler.metric c.args.ruler.now) in
    rw (p.1, p.2) (λ ps. told_same _ _ c.in_err-audit_inside.field-0.0
    (object_inside s c.args.ids.now.limit (last_point c.args.path.now) c.args.path.now c.args.page c.args.place (leaf_of c.args.object) (record { pages = ps; ids = c.args.ids.now.met })
    (sym c.is_point.ensures ∙ c.if-not-is_point.false)
    (c.if-object-parent_of.false ∙ c.parent_of.ensures.value))
    (rw (← c.parent_of.ensures.same) (c.in_err-audit_inside.ensures.err _)))
