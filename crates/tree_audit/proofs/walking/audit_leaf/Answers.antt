use Rattle.std.proofs.Common.{◌≡◌, length, sym, ◌∙◌, true}
use Rattle.tree_audit.specs.Audited.{is_filled}
use Rattle.tree_audit.proofs.Arrivals.{leaf_told_fine, told_if_err}
use Rattle.tree_audit.proofs.walking.audit_leaf.Goals as goal

pub returns-clause-err : goal.returns-clause-err
returns-clause-err g c =
    let s = g.R.M.Metric.space (g.R.Ruler.metric c.args.ruler.now) in
    let at = c.args.at.now in
    let full : is_filled s at.least (length c.args.objects.now) ≡ true =
    rw (c.requires.dimension, ← c.len.ensures) (sym c.is_filled.ensures ∙ c.if-not-is_filled.false) in
    told_if_err c.audit_objects.result _ _
    (λ ps. leaf_told_fine s c.args.ids.now.limit at.level at.least c.args.path.now at.page c.args.objects.now (record { pages = ps; ids = c.args.ids.now.met }) c.if-at-ne0.false full) c.audit_objects.ensures.err
