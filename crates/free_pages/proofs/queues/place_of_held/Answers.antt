use Rattle.std.proofs.Common.{rules}
use Rattle.std.proofs.lemmas.List.Sorted.{answers_always}
use Rattle.free_pages.specs.declared.held.Held.{Held}
use Rattle.free_pages.proofs.Places.{searched}
use Rattle.free_pages.proofs.queues.place_of_held.Goals as goal

pub returns : goal.returns
returns c =
    let by_key = c.binary_search_by_key.ensures.position (λ (h : Held). h.page) (answers_always _ _ _ (λ f a r g called. search rules)) in
    searched (λ (h : Held). h.page) c.args.page c.args.held.now.len c.args.held.now.items c.binary_search_by_key.result c.requires c.args.held.now.ok.0 c.binary_search_by_key.ensures.bound by_key
