use Rattle.std.proofs.lemmas.List.Elements.{All-filter}
use Rattle.page_store.specs.Shelf.{IsNodeOf}
use Rattle.page_cache.proofs.Pairs.{is_other}
use Rattle.page_cache.proofs.cached.Cached.forget.Goals as goal

pub invariant_of-self : goal.invariant_of-self
invariant_of-self g c = rw c.forget.ensures (All-filter (is_other c.args.page) (λ pair. IsNodeOf (g.P.Pages.shelf c.self.inside.inner) pair.0 pair.1) c.self.inside.kept.entries c.self.invariant)
