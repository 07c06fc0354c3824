use Rattle.std.proofs.Common.{ℕ, ◌<◌, ◌≢◌, get_or, All}
use Rattle.page_store.specs.Shelf.{Shelf}
use Rattle.page_cache.specs.Keeping.{Pairs, Agrees}
use Rattle.test_pages.proofs.caches.forget_each.Given as goal

-- what is left agrees where the whole did, and none of the pages so far is among it
pub record Left (whole left : Pairs) (page_at : ℕ → ℕ) (count : ℕ) : Type 0 where
  pub agrees : (shelf : Shelf) → Agrees whole shelf → Agrees left shelf
  pub gone : (k : ℕ) → k < count → All (λ pair. page_at k ≢ pair.0) left.entries

abbrev pub invariant-loop-page : goal.invariant-loop-page
invariant-loop-page l = Left l.fn.kept l.kept (λ k. get_or l.written k 0) l.page-index
