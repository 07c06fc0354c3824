use Rattle.std.proofs.Common.{◌+◌, List, sym, subst, ◌∙◌}
use Rattle.free_pages.specs.declared.held.Held.{Held}
use Rattle.free_pages.specs.Stored.{IsReleasing}
use Rattle.free_pages.proofs.Released.{releasing_back, releasing_free}
use Rattle.free_pages.proofs.queues.release_first.Goals as goal

pub returns-then-is_below-clause-released : goal.returns-then-is_below-clause-released
returns-then-is_below-clause-released c old_free old_held left way =
    rw c.push_back_reserved.ensures.items (releasing_back c.args.least old_free old_held c.args.free.now.items c.in-Some.first c.pop_front.new.self.items left
    (subst (λ (q : List Held). IsReleasing c.args.least old_free old_held c.args.free.now.items q (left + 1)) c.in-Some.ensures.items way) (sym c.is_below.ensures ∙ c.if-is_below.true))

pub returns-else-is_below-clause-released : goal.returns-else-is_below-clause-released
returns-else-is_below-clause-released c old_free old_held left way =
    rw c.push_back_reserved-else-is_below.ensures.items (releasing_free c.args.least old_free old_held c.args.free.now.items c.in-Some.first c.pop_front.new.self.items left
    (subst (λ (q : List Held). IsReleasing c.args.least old_free old_held c.args.free.now.items q (left + 1)) c.in-Some.ensures.items way) (sym c.is_below.ensures ∙ c.if-is_below.false))
