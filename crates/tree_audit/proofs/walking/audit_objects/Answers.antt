use Rattle.std.proofs.Common.{◌≡◌, sym, ◌∙◌, ap, List, suc, ◌∷◌, drop, arith}
use Rattle.std.proofs.lemmas.Result.{err_from_is_err_and}
use Rattle.std.proofs.Math.Seq.{drop-cons}
use Rattle.tree_shape.specs.declared.entry.LeafEntry.{LeafEntry}
use Rattle.tree_shape.specs.Entries.{leaf_of}
use Rattle.tree_audit.specs.Audited.{each_entry, check_object, last_point}
use Rattle.tree_audit.proofs.Entries.{told_same, and_then_fault}
use Rattle.tree_audit.proofs.walking.audit_objects.Goals as goal

pub returns-in_err-audit_object-clause-err : goal.returns-in_err-audit_object-clause-err
returns-in_err-audit_object-clause-err g c =
    let p = err_from_is_err_and c.from_residual.result c.from_residual.ensures.1 in
    let s = g.R.M.Metric.space (g.R.Ruler.metric c.args.ruler.now) in
    let object = leaf_of c.at.result in
    let check = check_object s c.args.ids.now.limit (last_point c.args.path.now) c.args.path.now c.args.page in
    let here : drop c.loop-i.i c.args.objects.now ≡ object ∷ drop (suc c.loop-i.i) c.args.objects.now =
    drop-cons c.args.objects.now c.loop-i.i object (omega (arith, c.len-i-end.ensures)) ∙ ap (λ (o : LeafEntry). o ∷ drop (suc c.loop-i.i) c.args.objects.now) (sym c.at.ensures) in
    rw (p.1, p.2) (λ ps. told_same _ _ c.in_err-audit_object.field-0.0
    (ap (λ (xs : List LeafEntry). each_entry check c.loop-i.i xs (record { pages = ps; ids = c.loop-i.ids.met })) (sym here) ∙ c.loop-i.invariant.left ps)
    (and_then_fault (check c.loop-i.i object (record { pages = ps; ids = c.loop-i.ids.met })) _ c.in_err-audit_object.field-0.0 (rw (← c.loop-i.invariant.same, ← c.loop-i.invariant.limit) (c.in_err-audit_object.ensures.err ps))))
