use Rattle.std.proofs.lemmas.List.Elements.{All-nil}
use Rattle.page_store.specs.Shelf.{IsNodeOf}
use Rattle.page_cache.proofs.laws.empty_cache_agrees.Goals as goal

pub returns : goal.returns
returns c = λ cap shelf. All-nil (λ pair. IsNodeOf shelf pair.0 pair.1)
