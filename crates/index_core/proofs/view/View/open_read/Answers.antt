use Rattle.std.proofs.Common.{inl, inr, refl}
use Rattle.index_core.proofs.Opening.{is_first}
use Rattle.index_core.proofs.view.View.open_read.Goals as goal

pub returns-then-head-ne2-clause-cause : goal.returns-then-head-ne2-clause-cause
returns-then-head-ne2-clause-cause g c =
    inr (inl (refl, λ is_known. (c.in_ok-head.head, c.in_ok-head.live, c.in_ok-head.ensures.ok is_known, is_first c.in_ok-head.head.version c.in_ok-head.ensures.head.version c.if-head-ne2.true)))
