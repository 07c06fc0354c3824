-- The file after some writes: the pages that they touched, over the bytes before them.
use Rattle.std.specs.Prelude.{◌≡◌, ℕ, ◌+◌, ◌*◌, ◌<◌, ◌≤◌, List, Option, None, Some, IsSome, length, slice_index}
use Rattle.std.specs.declared.alloc.Global.{Global}
use Rattle.std.specs.declared.vec.Vec.{Vec}
use Rattle.std.specs.Map.{lookup}
use Rattle.std.specs.Ordering.{nat_cmp}
use Rattle.std.specs.BTreeMap.{is_at}

-- the bytes of a page
abbrev pub Page : Type 0
Page = Vec ℕ Global

-- the bytes before the writes, and the pages of 4096 bytes that a write touched, each as it is after them
pub record Patches : Type 0 where
  pub base : List ℕ
  pub pages : List (ℕ × Page)

-- the touched page with this number
abbrev pub page_at : List (ℕ × Page) → ℕ → Option Page
page_at pages page = lookup (is_at (nat_cmp page)) pages

-- the byte number `i` of a page: of the touched page where there is one, else of the bytes before
abbrev pub byte_of : List ℕ → Option Page → ℕ → ℕ → ℕ
byte_of base None page i = slice_index base (4096 * page + i)
byte_of base (Some bytes) page i = slice_index bytes.items i

-- the bytes and pages together are this file; a place past the end of a file reads as 0
pub record Shows (patches : Patches) (file : List ℕ) : Type 0 where
  pub each : (page i : ℕ) → i < 4096 → byte_of patches.base (page_at patches.pages page) page i ≡ slice_index file (4096 * page + i)

-- the pages of `size` places from one on were touched
abbrev pub HasPlaces : Patches → ℕ → ℕ → Type 0
HasPlaces patches at size = (page i : ℕ) → i < 4096 → at ≤ 4096 * page + i → 4096 * page + i < at + size → IsSome (page_at patches.pages page)

-- each page that was touched in `old` was touched in `new`
abbrev pub Keeps : Patches → Patches → Type 0
Keeps old new = (page : ℕ) → IsSome (page_at old.pages page) → IsSome (page_at new.pages page)

-- each touched page has 4096 bytes
abbrev pub IsPaged : List (ℕ × Page) → Type 0
IsPaged pages = (page : ℕ) (bytes : Page) → page_at pages page ≡ Some bytes → length bytes.items ≡ 4096
