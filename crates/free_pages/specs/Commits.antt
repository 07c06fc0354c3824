-- Free and held pages across a commit.
use Rattle.std.specs.Prelude.{◌≡◌, ◌↔◌, ◌⊎◌, ℕ, ◌+◌, ◌≤◌, ◌<◌, List, [], ◌∷◌, ◌++◌, length, take, drop, min}
use Rattle.std.specs.List.{AllByRecursion}
use Rattle.metric_laws.specs.Lists.{IsIn}
use Rattle.tree_shape.specs.declared.live.Live.{Live}
use Rattle.tree_shape.specs.Tree.{times}
use Rattle.node_page.specs.declared.head.Head.{Head}
use Rattle.page_store.specs.declared.staging.Placed.{Placed}
use Rattle.page_store.specs.Numbers.{AreNumbers}
use Rattle.page_store.specs.Placing.{IsPlacement}
use Rattle.page_store.specs.Reading.{IsWithin}
use Rattle.page_store.specs.Staging.{pages_of}
use Rattle.page_store.specs.Succession.{ShareNone}
use Rattle.free_pages.specs.declared.held.Held.{Held}
use Rattle.free_pages.specs.Keeping.{FreePages, IsFreeOrHeld, IsKept, with_left, with_pins, without_pin}

-- a commit to generation `generation` left the pages, one after another
abbrev pub with_all_left : ℕ → List ℕ → FreePages → FreePages
with_all_left generation [] f = f
with_all_left generation (page ∷ pages) f = with_all_left generation pages (with_left f page generation)

-- after a commit to `generation` the first `used` free pages hold new nodes, and the pages `left` are left
abbrev pub after_commit : ℕ → List ℕ → ℕ → FreePages → FreePages
after_commit used left generation f = with_all_left generation left (record f { free = drop used f.free })

-- free and held pages may hold nodes of a file of `pages` pages
abbrev pub AreWithin : ℕ → FreePages → Type 0
AreWithin pages f = (page : ℕ) → IsFreeOrHeld f page → IsWithin pages page

-- none of the pages on which a tree stands is free or held
abbrev pub LiesBeside : List ℕ → FreePages → Type 0
LiesBeside tree f = (page : ℕ) → IsFreeOrHeld f page → IsIn page tree → ⊥

-- free and held are exactly the pages outside the tree
abbrev pub AreOutside : ℕ → List ℕ → FreePages → Type 0
AreOutside pages tree f = (page : ℕ) → IsFreeOrHeld f page ↔ (IsWithin pages page × (IsIn page tree → ⊥))

-- A commit gives new nodes the first `used` free pages and each page from the file's end on, and leaves other pages.
pub record IsExchange (pages next_pages used : ℕ) (f : FreePages) (staged left : List ℕ) : Type 0 where
  pub given : AllByRecursion (λ page. IsIn page (take used f.free) ⊎ (pages ≤ page)) staged
  pub uses : (page : ℕ) → IsIn page (take used f.free) → IsIn page staged
  pub more : pages ≤ next_pages
  pub fresh : (page : ℕ) → pages ≤ page → page < next_pages → IsIn page staged
  pub once : (page : ℕ) → times page staged ≤ 1
  pub left_within : AllByRecursion (IsWithin pages) left

-- the first of the free pages can be handed in for new nodes
abbrev pub FreePagesAreNumbers : Type 0
FreePagesAreNumbers = (pages n : ℕ) (f : FreePages) → IsKept f → AreWithin pages f → AreNumbers pages (take n f.free)

-- what is placed on the first free pages is an exchange
abbrev pub PlacementsExchange : Type 0
PlacementsExchange =
    (head : Head) (t : Live) (n added : ℕ) (f : FreePages) (placed : Placed) → IsKept f → AreWithin t.pages f → 3 ≤ t.pages →
    AllByRecursion (IsWithin t.pages) placed.left →
    IsPlacement head t (take n f.free) added placed →
    IsExchange t.pages placed.next.pages (min (length placed.staged) (length (take n f.free))) f (pages_of placed.staged) placed.left

-- after a commit free and held pages may still hold nodes
abbrev pub CommitsKeepWithin : Type 0
CommitsKeepWithin =
    (pages next_pages used generation : ℕ) (f : FreePages) (staged left : List ℕ) → IsExchange pages next_pages used f staged left → AreWithin pages f →
    AreWithin next_pages (after_commit used left generation f)

-- where a tree lay beside the free and held pages, the next tree does, if each of its pages is a page of the old tree or a new one,
-- and none was left
abbrev pub CommitsKeepBeside : Type 0
CommitsKeepBeside =
    (pages next_pages used generation : ℕ) (f : FreePages) (staged left tree next_tree : List ℕ) → IsKept f →
    IsExchange pages next_pages used f staged left → AreWithin pages f →
    LiesBeside tree f → ((page : ℕ) → IsIn page next_tree → IsIn page tree ⊎ IsIn page staged) → ShareNone left next_tree →
    LiesBeside next_tree (after_commit used left generation f)

-- Where free and held pages were exactly those outside a tree, they are exactly those outside the next tree, if the pages of the
-- next tree and the left ones together are those of the old tree and the new ones.
abbrev pub CommitsKeepOutside : Type 0
CommitsKeepOutside =
    (pages next_pages used generation : ℕ) (f : FreePages) (staged left tree next_tree : List ℕ) → IsKept f →
    IsExchange pages next_pages used f staged left → AreOutside pages tree f →
    ((page : ℕ) → times page tree ≤ 1) → AllByRecursion (IsWithin pages) tree →
    ((page : ℕ) → times page next_tree + times page left ≡ times page tree + times page staged) →
    AreOutside next_pages next_tree (after_commit used left generation f)

-- The pages of `tree` are guarded by the pin of a generation: none is free, and each that is held was left by a later commit.
pub record IsGuarded (pages generation : ℕ) (f : FreePages) (tree : List ℕ) : Type 0 where
  pub pinned : IsIn generation f.pins
  pub within : AllByRecursion (IsWithin pages) tree
  pub unfree : (page : ℕ) → IsIn page tree → IsIn page f.free → ⊥
  pub later : (h : Held) → IsIn h f.held → IsIn h.page tree → generation < h.generation

-- A pin guards the pages of a tree that lies beside the free and held pages. What is guarded stays so while commits to later
-- generations go on, as long as the pin is there, and no new node goes to a guarded page.
pub record PinsGuard : Type 0 where
  pub begin : (pages generation : ℕ) (f : FreePages) (tree : List ℕ) → IsIn generation f.pins →
      AllByRecursion (IsWithin pages) tree → LiesBeside tree f → IsGuarded pages generation f tree
  pub commit : (pages next_pages used generation next : ℕ) (f : FreePages) (tree left : List ℕ) → generation < next →
      pages ≤ next_pages → IsGuarded pages generation f tree →
      IsGuarded next_pages generation (after_commit used left next f) tree
  pub unwritten : (pages next_pages used generation : ℕ) (f : FreePages) (tree staged left : List ℕ) →
      IsGuarded pages generation f tree → IsExchange pages next_pages used f staged left → ShareNone staged tree
  pub pin : (pages generation other : ℕ) (f : FreePages) (tree : List ℕ) → IsGuarded pages generation f tree →
      IsGuarded pages generation (record f { pins = f.pins ++ other ∷ [] }) tree
  pub unpin : (pages generation other : ℕ) (f : FreePages) (tree : List ℕ) → IsIn generation (without_pin other f.pins) → IsGuarded pages generation f tree →
      IsGuarded pages generation (with_pins f (without_pin other f.pins)) tree
