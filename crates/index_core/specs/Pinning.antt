-- Pins of an index: generations whose trees stay as they are.
use Rattle.std.specs.Prelude.{◌≡◌, ℕ, List, [], ◌∷◌, ◌++◌, Some, MatchOption}
use Rattle.std.specs.List.{AllByRecursion}
use Rattle.metric_laws.specs.Lists.{IsIn}
use Rattle.page_store.specs.Reached.{IsReached}
use Rattle.tree_shape.specs.Tree.{Nodes}
use Rattle.free_pages.specs.Commits.{AreOutside}
use Rattle.free_pages.specs.Keeping.{FreePages, with_pins, without_pin}
use Rattle.index_core.specs.Index.{OpenIndex, AreSpare}

-- the generation is pinned
abbrev pub IsPinned : {M : Type 0} → ℕ → OpenIndex M → Type 0
IsPinned generation index = MatchOption index.free ⊥ (λ f. IsIn generation f.pins)

-- a free list with one pin more
abbrev pub pinned : ℕ → FreePages → FreePages
pinned generation f = record f { pins = f.pins ++ generation ∷ [] }

-- a free list with one pin of `generation` less
abbrev pub unpinned : ℕ → FreePages → FreePages
unpinned generation f = with_pins f (without_pin generation f.pins)

-- the free list, once it is made, lies beside the live tree of the nodes
abbrev pub LiesBesideTree : {M : Type 0} → Nodes → OpenIndex M → Type 0
LiesBesideTree nodes index = MatchOption index.free (Unit {0}) (AreSpare nodes index.file.live)

-- the free and held pages, once the list is made, are exactly those outside `tree`
abbrev pub LiesOutside : {M : Type 0} → List ℕ → OpenIndex M → Type 0
LiesOutside tree index = MatchOption index.free (Unit {0}) (AreOutside index.file.live.pages tree)

-- The free list has one pin more; where it was not made yet, it is the only one.
abbrev pub HasPinned : {M : Type 0} → ℕ → OpenIndex M → OpenIndex M → Type 0
HasPinned generation old new =
    MatchOption old.free
    (MatchOption new.free ⊥ (λ g. g.pins ≡ generation ∷ []))
    (λ f. new.free ≡ Some (pinned generation f))

-- child numbers lead from the root to each of the pages
abbrev pub AreReached : Nodes → ℕ → List ℕ → Type 0
AreReached nodes root tree = AllByRecursion (IsReached nodes root) tree
