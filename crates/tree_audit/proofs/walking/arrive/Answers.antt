use Rattle.std.proofs.Common.{sym, ◌∙◌}
use Rattle.std.proofs.lemmas.Result.{err_from_is_err_and}
use Rattle.tree_shape.specs.Tree.{times}
use Rattle.tree_audit.proofs.Arrivals.{zero_met, of_open}
use Rattle.tree_audit.proofs.walking.arrive.Goals as goal

pub returns-in_err-node-clause-err : goal.returns-in_err-node-clause-err
returns-in_err-node-clause-err g c =
    let p = err_from_is_err_and c.from_residual.result c.from_residual.ensures.1 in
    rw (p.1, p.2) (λ s count h least path ids. of_open (g.P.Pages.shelf c.args.pages.now) (g.P.Pages.shelf c.open_page.new.pages) s count h least path c.args.page (record { pages = c.args.seen.now.met; ids = ids }) c.in_err-node.field-0.0
    (zero_met (times c.args.page c.args.seen.now.met) (sym c.has.ensures ∙ c.if-has.false)) c.in_err-node.ensures.err)
