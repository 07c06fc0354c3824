use Rattle.std.proofs.Common.{false, slice_index_or, sym, ap, ◌∙◌, arith}
use Rattle.std.proofs.lemmas.Result.{err_from_is_err_and}
use Rattle.free_pages.proofs.Steps.{way_more, way_refused, way_repeats}
use Rattle.free_pages.proofs.walking.visit.Goals as goal

pub returns-then-is_opened-clause-err : goal.returns-then-is_opened-clause-err
returns-then-is_opened-clause-err g c old t coming way =
    way_repeats old (g.P.Pages.shelf c.args.pages.now) t c.args.walk.now.count c.args.walk.now.opened.items c.args.page coming way (g.P.Pages.shelf c.args.pages.now)
    (ap (λ flags. slice_index_or flags c.args.page false) (sym c.as_slice.ensures.value) ∙ sym c.is_opened.ensures ∙ c.if-is_opened.true) c.requires.limit

pub returns-in_err-node-clause-err : goal.returns-in_err-node-clause-err
returns-in_err-node-clause-err g c =
    let p = err_from_is_err_and c.from_residual.result c.from_residual.ensures.1 in
    rw (p.1, p.2) (λ old t coming way. way_refused old (g.P.Pages.shelf c.args.pages.now) t c.args.walk.now.count c.args.walk.now.opened.items c.args.page coming way (g.P.Pages.shelf c.node.new.self) c.in_err-node.field-0.0
    (ap (λ flags. slice_index_or flags c.args.page false) (sym c.as_slice.ensures.value) ∙ sym c.is_opened.ensures ∙ c.if-is_opened.false) c.in_err-node.ensures.cause)

pub returns-clause-opened : goal.returns-clause-opened
returns-clause-opened g c old t way =
    rw c.in_ok-name_children.ensures (way_more old (g.P.Pages.shelf c.args.pages.now) (g.P.Pages.shelf c.node.new.self) t c.args.walk.now.count c.args.walk.now.opened.items c.args.page _ c.as_ref.result.now way
    (ap (λ flags. slice_index_or flags c.args.page false) (sym c.as_slice.ensures.value) ∙ sym c.is_opened.ensures ∙ c.if-is_opened.false) c.requires.limit
    (rw c.as_ref.ensures c.in_ok-node.ensures.ok) c.node.ensures.same (omega (arith, c.node.ensures.asked)) c.node.ensures.reads)
