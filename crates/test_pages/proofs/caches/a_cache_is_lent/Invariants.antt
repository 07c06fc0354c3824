use Rattle.std.proofs.Common.{false}
use Rattle.disk_model.specs.Memory.Images.{memory_state}
use Rattle.node_page.specs.declared.node.Version.TheVariants.{Second}
use Rattle.page_store.specs.Shelves.{disk_shelf}
use Rattle.page_cache.specs.Keeping.{Agrees}
use Rattle.test_pages.proofs.caches.a_cache_is_lent.Given as goal

abbrev pub invariant-loop-page : goal.invariant-loop-page
invariant-loop-page g l = Agrees l.kept (disk_shelf Second 1 6 (memory_state l.disk) 0)
