use Rattle.std.proofs.Common.{◌≡◌, ◌∙◌, ◌-◌, ℕ, refl, sym, ap, subst, arith, length}
use Rattle.page_store.specs.Numbers.{AreNumbers}
use Rattle.page_store.proofs.Giving.{is_placement}
use Rattle.page_store.proofs.settling.settle.Goals as goal

pub returns-clause-placement : goal.returns-clause-placement
returns-clause-placement c = λ head count writable.
    is_placement head c.args.live.now c.args.numbering.now.numbers.now c.args.tree.nodes.items c.args.tree.root c.args.tree.height c.args.tree.added _
    (rw (sym c.requires.first) c.in_ok-staged.ensures) (rw (c.other_side.ensures, needed) refl)
    c.requires.low_pages (let w = c.if-needed-live.false in omega (arith, w, needed)) count c.requires.generation (subst (λ (k : ℕ). AreNumbers k c.args.numbering.now.numbers.now) c.requires.first c.requires.numbers)
    (rw (sym c.requires.first) c.requires.root) c.requires.height writable
  where
    needed : c.saturating_sub-needed.result ≡ length c.args.tree.nodes.items - length c.args.numbering.now.numbers.now
    needed = c.saturating_sub-needed.ensures ∙ ap (λ (k : ℕ). k - length c.args.numbering.now.numbers.now) (c.len.ensures ∙ c.args.tree.nodes.ok.0)
