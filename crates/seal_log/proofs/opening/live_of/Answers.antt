use Rattle.std.proofs.Common.{ℕ, ◌*◌, sym, subst}
use Rattle.shadow_root.specs.Opening.{IsLiveSlot}
use Rattle.seal_log.proofs.opening.live_of.Goals as goal

pub returns-in-Err-clause-none : goal.returns-in-Err-clause-none
returns-in-Err-clause-none c = λ none live is.
    let here = subst (λ (n : ℕ). IsLiveSlot c.args.first.now c.args.second.now c.args.limit (4096 * n) live) (sym c.from.ensures) is.0 in
    absurd (let e = c.in-Err.ensures.only live here in cc)
