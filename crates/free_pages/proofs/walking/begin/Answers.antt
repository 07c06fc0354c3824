use Rattle.std.proofs.Common.{◌≡◌, ◌∷◌, [], Bool, List, false, sym, subst, rules}
use Rattle.std.specs.Prelude.{replicate}
use Rattle.free_pages.specs.Opened.{IsUnderWay}
use Rattle.free_pages.proofs.Steps.{way_begun}
use Rattle.free_pages.proofs.walking.begin.Goals as goal

pub returns-clause-begun : goal.returns-clause-begun
returns-clause-begun c s =
    let flags : c.in_ok-vec.field-0.items ≡ replicate c.args.live.now.pages false = search rules in
    rw c.in_ok-vec-2.ensures.items (subst (λ (flags : List Bool). IsUnderWay s s c.args.live.now 0 flags (c.args.live.now.root ∷ [])) (sym flags) (way_begun s c.args.live.now))
