-- Pages that are lent to a search, behind a cache of nodes if there is one.
use Rattle.std.specs.Prelude.{◌≡◌, Option, Some, None, MatchOption, refl}
use Rattle.std.proofs.Common.{◌∙◌}
use Rattle.page_store.specs.Shelf.{Shelf}
use Rattle.page_cache.specs.Keeping.{Pairs, Agrees}
use Rattle.page_cache.specs.Cache.{asked_for}
use Rattle.index_core.specs.declared.lending.Lent.{Lent}
use Rattle.index_core.specs.declared.lending.Lent.TheVariants.{Plain, Behind}

-- the cache, if any, agrees with the pages
abbrev pub KeptAgrees : Option Pairs → Shelf → Type 0
KeptAgrees kept shelf = MatchOption kept (Unit {0}) (λ pairs. Agrees pairs shelf)

-- the pages themselves
abbrev pub lent_inner : {P : Type 0} → Lent P → P
lent_inner (Plain inner) = inner
lent_inner (Behind cached) = cached.inner

-- the cache, if any
abbrev pub lent_kept : {P : Type 0} → Lent P → Option Pairs
lent_kept (Plain inner) = None
lent_kept (Behind cached) = Some cached.kept

-- the pages as a search sees them, given how the pages themselves are seen
abbrev pub lent_shelf : {P : Type 0} → (P → Shelf) → Lent P → Shelf
lent_shelf shelf (Plain inner) = shelf inner
lent_shelf shelf (Behind cached) = asked_for (shelf cached.inner) cached.asked

-- the cache has the same capacity as before
abbrev pub SameRoom : Option Pairs → Option Pairs → Type 0
SameRoom None None = Unit {0}
SameRoom None (Some new) = ⊥
SameRoom (Some old) None = ⊥
SameRoom (Some old) (Some new) = new.cap ≡ old.cap

pub same_room_by_none : (kept : Option Pairs) → SameRoom kept kept
same_room_by_none None = tt
same_room_by_none (Some pairs) = refl

pub same_room_by_both : (old mid new : Option Pairs) → SameRoom old mid → SameRoom mid new → SameRoom old new
same_room_by_both None None new first second = second
same_room_by_both None (Some b) new first second = absurd first
same_room_by_both (Some a) None new first second = absurd first
same_room_by_both (Some a) (Some b) None first second = absurd second
same_room_by_both (Some a) (Some b) (Some c) first second = second ∙ first
