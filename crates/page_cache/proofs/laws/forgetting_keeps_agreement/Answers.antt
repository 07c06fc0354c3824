use Rattle.std.proofs.lemmas.List.Elements.{All-filter}
use Rattle.page_store.specs.Shelf.{IsNodeOf}
use Rattle.page_cache.proofs.Pairs.{is_other, lookup-filter, filter-others}
use Rattle.page_cache.proofs.laws.forgetting_keeps_agreement.Goals as goal

pub returns : goal.returns
returns c = λ kept page.
    (lookup-filter page kept.entries, filter-others page kept.entries, λ shelf agrees. All-filter (is_other page) (λ pair. IsNodeOf shelf pair.0 pair.1) kept.entries agrees)
