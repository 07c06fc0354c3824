-- Laws of walks and of free pages.
use Rattle.std.specs.Prelude.{◌≡◌, ◌↔◌, ◌⊎◌, ℕ, List, [], ◌∷◌, take, IsSome, Ok, Err, true, false}
use Rattle.std.specs.List.{AllByRecursion}
use Rattle.metric_laws.specs.Lists.{IsIn}
use Rattle.metric_laws.specs.Space.{Space}
use Rattle.tree_shape.specs.declared.live.Live.{Live}
use Rattle.tree_shape.specs.Tree.{IsSoundTree}
use Rattle.page_store.specs.Numbers.{Ascends, AreNumbers}
use Rattle.page_store.specs.Placing.{live_pages}
use Rattle.page_store.specs.declared.pages.PageFault.{PageFault}
use Rattle.page_store.specs.declared.pages.PageFault.TheVariants.{Repeats}
use Rattle.page_store.specs.Reading.{Read, IsWithin, nodes_of}
use Rattle.page_store.specs.Tours.{Tours, Names}
use Rattle.free_pages.specs.declared.held.Held.{Held}
use Rattle.free_pages.specs.Keeping.{FreePages, IsFreeOrHeld, IsKept, held_pages, is_kept, is_pinned_below, with_free, with_left, with_pins}
use Rattle.page_store.specs.Reached.{IsWholeTree}
use Rattle.free_pages.specs.Walk.{outside_pages, tree_walk}

-- the walk of a sound tree opens its pages
abbrev pub SoundTreesAreWalked : Type 0
SoundTreesAreWalked = (s : Space) (read : Read) (t : Live) → IsSoundTree s (nodes_of read) t → tree_walk read t ≡ Ok (live_pages (nodes_of read) t)

-- the first of ascending pages that may hold nodes can be handed in for new nodes
abbrev pub LeastAreNumbers : Type 0
LeastAreNumbers = (pages n : ℕ) (free : List ℕ) → Ascends 0 free → AllByRecursion (IsWithin pages) free → AreNumbers pages (take n free)

-- a walk ends where each page of the tree holds a node and is named once
abbrev pub WholeTreesAreWalked : Type 0
WholeTreesAreWalked =
    (read : Read) (t : Live) (tree : List ℕ) → IsWholeTree (nodes_of read) t tree → AllByRecursion (λ page. IsSome (nodes_of read page)) tree →
    (order : List ℕ) × (tree_walk read t ≡ Ok order)

-- The walk is the walk by child numbers. Where it ends, the walk by child numbers is whole and opened the same pages; where it
-- stops, that walk names the page that holds no node or that repeats.
pub record WalksAreTours : Type 0 where
  pub ends : (read : Read) (t : Live) (tree : List ℕ) → tree_walk read t ≡ Ok tree → Tours (nodes_of read) (t.root ∷ []) tree []
  pub stops : (read : Read) (t : Live) (fault : PageFault) → tree_walk read t ≡ Err fault →
      (opened : ℕ) × (page : ℕ) × Names (nodes_of read) t.root opened page × ((read page ≡ Err fault) ⊎ (fault ≡ Repeats page))

-- the pages outside a tree are those that may hold nodes and are not in the tree
abbrev pub OutsideIsOutside : Type 0
OutsideIsOutside = (pages : ℕ) (tree : List ℕ) (page : ℕ) → IsIn page (outside_pages pages tree) ↔ (IsWithin pages page × (IsIn page tree → ⊥))

-- a page that is given back or left is free or held from then on, and no other page becomes so or ceases to be so
abbrev pub LeavingKeepsPages : Type 0
LeavingKeepsPages =
    (f : FreePages) (page generation : ℕ) (p : ℕ) → (IsFreeOrHeld (with_free f page) p ↔ ((p ≡ page) ⊎ IsFreeOrHeld f p))
    × (IsFreeOrHeld (with_left f page generation) p ↔ ((p ≡ page) ⊎ IsFreeOrHeld f p))

-- with other pins the same pages are free or held; the pages with no pin below them become free
abbrev pub PinsKeepPages : Type 0
PinsKeepPages =
    (f : FreePages) (pins : List ℕ) (p : ℕ) → (IsFreeOrHeld (with_pins f pins) p ↔ IsFreeOrHeld f p)
    × (IsIn p (with_pins f pins).free ↔ (IsIn p f.free ⊎ ((h : Held) × IsIn h f.held × (h.page ≡ p) × (is_pinned_below h.generation pins ≡ false))))

-- While a generation below is pinned, a page that is left becomes held, unless it is free or held already, and none becomes
-- free. What is held stays so when a page is left. Other pins hold exactly the held pages that have a pin below. No held page is
-- free.
pub record HeldWhilePinned : Type 0 where
  pub left : (f : FreePages) (page generation : ℕ) → is_pinned_below generation f.pins ≡ true →
      ((with_left f page generation).free ≡ f.free)
      × ((is_kept f page ≡ true) ⊎ IsIn (record { page = page; generation = generation }) (with_left f page generation).held)
  pub stay : (f : FreePages) (page generation : ℕ) (h : Held) → IsIn h f.held → IsIn h (with_left f page generation).held
  pub pins : (f : FreePages) (pins : List ℕ) (h : Held) → IsIn h (with_pins f pins).held ↔ (IsIn h f.held × (is_pinned_below h.generation pins ≡ true))
  pub apart : (f : FreePages) (page : ℕ) → IsKept f → IsIn page f.free → IsIn page (held_pages f.held) → ⊥
