use Rattle.std.proofs.Common.{◌≡◌, Some, sym, ◌∙◌}
use Rattle.page_cache.specs.Lines.{held_node}
use Rattle.page_cache.proofs.Agreement.{none_outside}
use Rattle.page_cache.proofs.OnLines.{held_is_node, unheld_outside}
use Rattle.page_cache.proofs.mapped.MappedPages.node.Goals as goal

pub returns-in-Ok-Some-clause-outside : goal.returns-in-Ok-Some-clause-outside
returns-in-Ok-Some-clause-outside g c = rw (← c.self.view_is) (λ out.
    let shelf = g.P.Pages.shelf c.self.inside.inner in
    let found : held_node c.self.inside.lines c.args.page ≡ Some c.in-Ok-Some.node = sym c.in-Ok-Some.ensures.found ∙ c.in-Ok-Some.field-0-is in
    absurd (none_outside shelf c.args.page c.in-Ok-Some.node (held_is_node c.self.inside.lines shelf c.args.page c.in-Ok-Some.node c.self.invariant found) out))

pub returns-in-Err-clause-outside : goal.returns-in-Err-clause-outside
returns-in-Err-clause-outside g c = rw (← c.self.view_is) (λ out.
    let none = unheld_outside c.self.inside.lines (g.P.Pages.shelf c.self.inside.inner) c.args.page c.self.invariant out in
    let answered = c.in-Err.ensures.unheld none in
    cc)
