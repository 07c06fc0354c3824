use Rattle.std.proofs.Common.{◌≡◌, ◌∙◌, ap, sym, arith, false, ℕ}
use Rattle.std.specs.Prelude.{◌==◌}
use Rattle.std.specs.List.{list_any}
use Rattle.metric_mix.proofs.PairCounts.{missing}
use Rattle.metric_mix.proofs.permutations.hold_below.Goals as goal

pub returns-then-not-contains : goal.returns-then-not-contains
returns-then-not-contains c =
    let none : list_any (λ y. y == c.loop-k.k) c.args.p.now ≡ false =
    ap (λ (m : ℕ). list_any (λ y. y == m) c.args.p.now) (sym c.from.ensures) ∙ sym c.contains.ensures.value ∙ c.if-not-contains.true in
    sym (missing c.args.n c.loop-k.k c.args.p.now (omega arith) none)
