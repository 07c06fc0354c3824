use Rattle.std.proofs.Common.{◌≡◌, Some, Ok, sym, ◌∙◌, ap, subst, refl}
use Rattle.tree_shape.specs.declared.live.Live.{Live}
use Rattle.node_page.specs.declared.slot.Slot.{Slot}
use Rattle.node_page.specs.Opening.{IsValidLive, is_valid_live, live_at}
use Rattle.node_page.proofs.Published.{valid_by_test}
use Rattle.shadow_root.proofs.Opened.{not_clear, not_valid}
use Rattle.shadow_root.proofs.opening.live_in.Goals as goal

pub returns-in-None-clause-fault : goal.returns-in-None-clause-fault
returns-in-None-clause-fault c = (refl, not_clear c.args.page.now _ (c.in-None.ensures.none.0 refl))

pub returns-then-not-is_valid_live-clause-fault : goal.returns-then-not-is_valid_live-clause-fault
returns-then-not-is_valid_live-clause-fault c = (
  refl,
  not_valid c.args.page.now c.in-Some.slot c.args.limit c.args.size c.args.side c.in-Some.ensures.some
      (ap (λ (live : Live). is_valid_live c.args.limit c.args.size live) (sym c.live_at-live.ensures) ∙ sym c.is_valid_live.ensures.value
      ∙ c.if-not-is_valid_live.true),
)

pub returns-clause-valid : goal.returns-clause-valid
returns-clause-valid c = valid_by_test c.args.limit c.args.size c.live_at-live.result (sym c.is_valid_live.ensures.value ∙ c.if-not-is_valid_live.false)

pub returns-in-None-clause-only : goal.returns-in-None-clause-only
returns-in-None-clause-only c = λ slot spells valid. absurd (let e = c.in-None.ensures.only slot spells in cc)

pub returns-then-not-is_valid_live-clause-only : goal.returns-then-not-is_valid_live-clause-only
returns-then-not-is_valid_live-clause-only c = λ slot spells valid.
    let some : Some c.in-Some.slot ≡ Some slot = c.in-Some.ensures.only slot spells in
    let same : c.in-Some.slot ≡ slot = cc in
    let here = subst (IsValidLive c.args.limit c.args.size) (sym (c.live_at-live.ensures ∙ ap (λ (s : Slot). live_at c.args.side s) same)) valid in
    absurd (let e = sym (c.is_valid_live.ensures.bounds.1 here) ∙ c.if-not-is_valid_live.true in cc)

pub returns-clause-only : goal.returns-clause-only
returns-clause-only c = λ slot spells valid.
    let some : Some c.in-Some.slot ≡ Some slot = c.in-Some.ensures.only slot spells in
    let same : c.in-Some.slot ≡ slot = cc in
    ap (λ (live : Live). Ok live) (c.live_at-live.ensures ∙ ap (λ (s : Slot). live_at c.args.side s) same)
