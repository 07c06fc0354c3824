use Rattle.std.proofs.Common.{sym, ◌∙◌, subst, IsTrue, Bool}
use Rattle.page_store.proofs.Published.{holds_at_ok}
use Rattle.shadow_root.proofs.making.create.Goals as goal

pub returns-clause-made : goal.returns-clause-made
returns-clause-made g c = λ is_known.
    holds_at_ok c.make.result (sym c.is_err.ensures.value ∙ c.if-is_err.false) c.make.ensures.made (subst (λ (b : Bool). IsTrue b) (sym c.size.ensures.same.same_known) is_known)
