use Rattle.std.proofs.Common.{rules}
use Rattle.std.proofs.lemmas.List.Sorted.{answers_always}
use Rattle.seal_log.specs.declared.parts.CarriedPage.{CarriedPage}
use Rattle.seal_log.proofs.Found.{searched}
use Rattle.seal_log.proofs.pages.place_of.Goals as goal

pub returns-clause-there : goal.returns-clause-there
returns-clause-there c =
    let by_key = c.binary_search_by_key.ensures.position (λ (p : CarriedPage). p.page) (answers_always _ _ _ (λ f a r g called. search rules)) in
    (searched c.args.carried.now c.args.page c.binary_search_by_key.result c.requires c.binary_search_by_key.ensures.bound by_key).0

pub returns-clause-nowhere : goal.returns-clause-nowhere
returns-clause-nowhere c =
    let by_key = c.binary_search_by_key.ensures.position (λ (p : CarriedPage). p.page) (answers_always _ _ _ (λ f a r g called. search rules)) in
    (searched c.args.carried.now c.args.page c.binary_search_by_key.result c.requires c.binary_search_by_key.ensures.bound by_key).1
