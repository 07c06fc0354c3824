use Rattle.std.proofs.Common.{false, refl, arith}
use Rattle.disk_model.specs.Memory.Images.{memory_state}
use Rattle.node_page.specs.declared.node.Version.TheVariants.{Second}
use Rattle.page_store.specs.Shelves.{disk_shelf}
use Rattle.test_pages.proofs.caches.a_cache_is_lent.Goals as goal

pub look-answer-requires-2 : goal.look-answer-requires-2
look-answer-requires-2 g c =
    let shelf = disk_shelf Second 1 6 (memory_state c.loop-page.disk) 0 in
    c.forget_each.ensures shelf shelf (record { dim = refl; pages = omega arith; is_known = λ is_known. is_known }) c.loop-page.invariant (λ is_known page others. refl)
