-- Pages behind a cache.
use Rattle.std.specs.Prelude.{ℕ}
use Rattle.page_store.specs.Shelf.{Shelf}
use Rattle.page_cache.specs.Keeping.{Pairs}

-- the pages behind the cache, the cached nodes, and how often a page was asked for here
pub record Cache (Inner : Type 0) : Type 0 where
  pub inner : Inner
  pub kept : Pairs
  pub asked : ℕ

-- pages that hold the same, with a count of requests of their own
abbrev pub asked_for : Shelf → ℕ → Shelf
asked_for shelf asked = record shelf { asked = asked }
