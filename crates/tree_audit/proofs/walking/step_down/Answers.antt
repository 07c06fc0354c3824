use Rattle.std.proofs.Common.{List, subst}
use Rattle.std.proofs.lemmas.Result.{err_from_is_err_and}
use Rattle.tree_shape.specs.Entries.{inner_of}
use Rattle.tree_audit.specs.declared.walking.Step.{Step}
use Rattle.tree_audit.specs.Audited.{check_entry, last_point}
use Rattle.tree_audit.specs.Visits.{IsEntryFault}
use Rattle.tree_audit.proofs.walking.step_down.Goals as goal

pub returns-in_err-audit_entry-clause-err : goal.returns-in_err-audit_entry-clause-err
returns-in_err-audit_entry-clause-err g c =
    let p = err_from_is_err_and c.from_residual.result c.from_residual.ensures.1 in
    rw (p.1, p.2) (λ rest. subst (λ (p : List Step). IsEntryFault (check_entry (g.R.M.Metric.space (g.R.Ruler.metric c.args.ruler.now)) (last_point p) c.args.at.now.page c.args.place (inner_of c.args.entry) rest) c.in_err-audit_entry.field-0.0)
    c.as_slice.ensures.value (c.in_err-audit_entry.ensures.err rest))
