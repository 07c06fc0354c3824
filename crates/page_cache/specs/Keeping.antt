-- Which nodes of a file's pages are cached.
use Rattle.std.specs.Prelude.{◌≡◌, ◌⊎◌, ℕ, not, nat_eq, filter, Option, None, All}
use Rattle.std.specs.Map.{lookup}
use Rattle.lru.specs.LruCache.{LruCache, lru_cache, put_entries}
use Rattle.tree_shape.specs.declared.entry.Node.{Node}
use Rattle.page_store.specs.Shelf.{Shelf, IsNodeOf}

-- the cached pairs of a page and its node as `entries`, the last used first; `cap` is the greatest number of pairs
abbrev pub Pairs : Type 0
Pairs = LruCache ℕ Node

-- the node that is cached for a page, if there is one
abbrev pub kept_node : Pairs → ℕ → Option Node
kept_node kept page = lookup (nat_eq page) kept.entries

-- the cache after a page was used: its pair is the first, and a new pair pushes the last one out of a full cache
abbrev pub used : Pairs → ℕ → Node → Pairs
used kept page node = lru_cache (put_entries nat_eq kept page node) kept.cap

-- the cache after a page was forgotten: each other pair, in order
abbrev pub without : Pairs → ℕ → Pairs
without kept page = lru_cache (filter (λ pair. not (nat_eq page pair.0)) kept.entries) kept.cap

-- a page was used; a page that was not cached may also stay so
abbrev pub IsUsed : Pairs → Pairs → ℕ → Node → Type 0
IsUsed old new page node = (new ≡ used old page node) ⊎ ((kept_node old page ≡ None) × (new ≡ old))

-- each cached page is one of the pages, and each cached node is one that a page can hold; where the pages tell what they hold, it is
-- the node of its page
abbrev pub Agrees : Pairs → Shelf → Type 0
Agrees kept shelf = All (λ pair. IsNodeOf shelf pair.0 pair.1) kept.entries
