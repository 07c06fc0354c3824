use Rattle.std.proofs.Common.{◌≡◌, Some, sym, ◌∙◌, subst}
use Rattle.page_cache.specs.Keeping.{Pairs, kept_node, used, Agrees}
use Rattle.page_cache.proofs.Agreement.{found_is_node, used_agrees, kept_agrees, none_outside, unkept_outside, agrees-same, is_node-same, is_node-asked}
use Rattle.page_cache.proofs.cached.CachedPages.node.Goals as goal

pub invariant_of-self : goal.invariant_of-self
invariant_of-self g c =
    let shelf = g.P.Pages.shelf c.self.inside.inner in
    let found : kept_node c.self.inside.kept c.args.page ≡ Some c.in-Ok-Some.node = sym c.in-Ok-Some.ensures.found ∙ c.in-Ok-Some.field-0-is in
    let kept : c.share_of.new.self ≡ used c.self.inside.kept c.args.page c.in-Ok-Some.node = rw c.in-Ok-Some.field-0-is at c.in-Ok-Some.ensures.kept in
    subst (λ (k : Pairs). Agrees k shelf) (sym kept)
    (used_agrees c.self.inside.kept shelf c.args.page c.in-Ok-Some.node c.self.invariant (found_is_node c.self.inside.kept shelf c.args.page c.in-Ok-Some.node c.self.invariant found))

pub invariant_of-self-in-Ok-Some-2 : goal.invariant_of-self-in-Ok-Some-2
invariant_of-self-in-Ok-Some-2 g c =
    let shelf = g.P.Pages.shelf c.self.inside.inner in
    let found : kept_node c.self.inside.kept c.args.page ≡ Some c.in-Ok-Some.node = sym c.in-Ok-Some.ensures.found ∙ c.in-Ok-Some.field-0-is in
    let kept : c.share_of.new.self ≡ used c.self.inside.kept c.args.page c.in-Ok-Some.node = rw c.in-Ok-Some.field-0-is at c.in-Ok-Some.ensures.kept in
    subst (λ (k : Pairs). Agrees k shelf) (sym kept)
    (used_agrees c.self.inside.kept shelf c.args.page c.in-Ok-Some.node c.self.invariant (found_is_node c.self.inside.kept shelf c.args.page c.in-Ok-Some.node c.self.invariant found))

pub invariant_of-self-in-Ok-None : goal.invariant_of-self-in-Ok-None
invariant_of-self-in-Ok-None g c =
    let old = g.P.Pages.shelf c.self.inside.inner in
    let new = g.P.Pages.shelf c.node.new.self in
    let same : c.share_of.new.self ≡ c.self.inside.kept = rw c.in-Ok-None.field-0-is at c.in-Ok-None.ensures.kept in
    let agrees : Agrees c.share_of.new.self new = subst (λ (k : Pairs). Agrees k new) (sym same) (agrees-same c.self.inside.kept old new c.node.ensures.same c.self.invariant) in
    let node = c.in_ok-node-in-Ok-None.node in
    kept_agrees c.share_of.new.self c.keep.new.self new c.args.page node agrees (is_node-same old new c.args.page node c.node.ensures.same c.in_ok-node-in-Ok-None.ensures.ok)
    (rw c.take_spare.ensures at c.keep.ensures)

pub returns-in-Ok-Some-clause-ok : goal.returns-in-Ok-Some-clause-ok
returns-in-Ok-Some-clause-ok g c =
    let found : kept_node c.self.inside.kept c.args.page ≡ Some c.in-Ok-Some.node = sym c.in-Ok-Some.ensures.found ∙ c.in-Ok-Some.field-0-is in
    rw (← c.self.view_is) (is_node-asked (g.P.Pages.shelf c.self.inside.inner) c.self.inside.asked c.args.page c.in-Ok-Some.node
    (found_is_node c.self.inside.kept (g.P.Pages.shelf c.self.inside.inner) c.args.page c.in-Ok-Some.node c.self.invariant found))

pub returns-in-Ok-Some-clause-outside : goal.returns-in-Ok-Some-clause-outside
returns-in-Ok-Some-clause-outside g c = rw (← c.self.view_is) (λ out.
    let shelf = g.P.Pages.shelf c.self.inside.inner in
    let found : kept_node c.self.inside.kept c.args.page ≡ Some c.in-Ok-Some.node = sym c.in-Ok-Some.ensures.found ∙ c.in-Ok-Some.field-0-is in
    absurd (none_outside shelf c.args.page c.in-Ok-Some.node (found_is_node c.self.inside.kept shelf c.args.page c.in-Ok-Some.node c.self.invariant found) out))

pub returns-in-Err-clause-outside : goal.returns-in-Err-clause-outside
returns-in-Err-clause-outside g c = rw (← c.self.view_is) (λ out.
    let none = unkept_outside c.self.inside.kept (g.P.Pages.shelf c.self.inside.inner) c.args.page c.self.invariant out in
    let answered = c.in-Err.ensures.unkept none in
    cc)
