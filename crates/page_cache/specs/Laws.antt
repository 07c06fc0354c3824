-- How long a cache agrees with pages that change.
use Rattle.std.specs.Prelude.{◌≡◌, ◌≢◌, ℕ, ◌≤◌, [], IsTrue, None, All}
use Rattle.lru.specs.LruCache.{lru_cache}
use Rattle.page_store.specs.Shelf.{Shelf}
use Rattle.page_cache.specs.Keeping.{Pairs, kept_node, without, Agrees}

-- an empty cache agrees with any pages
abbrev pub EmptyCacheAgrees : Type 0
EmptyCacheAgrees = (cap : ℕ) (shelf : Shelf) → Agrees (lru_cache [] cap) shelf

-- points have as many coordinates as before, there are no fewer pages, and they tell what they hold only if they did before
pub record GrowsTo (old new : Shelf) : Type 0 where
  pub dim : new.dim ≡ old.dim
  pub pages : old.pages ≤ new.pages
  pub is_known : IsTrue new.is_known → IsTrue old.is_known

-- A cache agrees with pages that grow as long as each cached page holds what it held. So after pages are written anew, only these
-- have to be forgotten.
abbrev pub AgreementLasts : Type 0
AgreementLasts = (kept : Pairs) (old new : Shelf) → GrowsTo old new → Agrees kept old →
    (IsTrue new.is_known → All (λ pair. new.read pair.0 ≡ old.read pair.0) kept.entries) → Agrees kept new

-- a forgotten page is no longer cached, and the rest of the cache agrees where the whole did
abbrev pub ForgettingKeepsAgreement : Type 0
ForgettingKeepsAgreement = (kept : Pairs) (page : ℕ) →
    (kept_node (without kept page) page ≡ None) × All (λ pair. page ≢ pair.0) (without kept page).entries
    × ((shelf : Shelf) → Agrees kept shelf → Agrees (without kept page) shelf)
