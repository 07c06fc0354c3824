-- Free and held pages.
use Rattle.std.specs.Prelude.{◌≡◌, ◌⊎◌, ℕ, ◌-◌, ◌==◌, ◌||◌, not, max, nat_lt, Bool, IsTrue, List, [], ◌∷◌, map, filter, if◌then◌else◌}
use Rattle.std.specs.List.{AllByRecursion, list_any}
use Rattle.metric_laws.specs.Lists.{IsIn}
use Rattle.tree_shape.specs.Tree.{times}
use Rattle.page_store.specs.Numbers.{Ascends}
use Rattle.free_pages.specs.declared.held.Held.{Held}

-- the free pages in ascending order; the pinned generations, each as often as it is pinned; the held pages in order of page; how many
-- pages can be given back or left without more memory; and the greatest generation that a commit named
pub record FreePages : Type 0 where
  pub free : List ℕ
  pub pins : List ℕ
  pub held : List Held
  pub spare : ℕ
  pub newest : ℕ

-- a value at its key's place among ascending ones; an equal key's value stays
abbrev pub put_by : {X : Type 0} → (X → ℕ) → X → List X → List X
put_by key x [] = x ∷ []
put_by key x (y ∷ ys) = if nat_lt (key x) (key y) then x ∷ y ∷ ys else (if nat_lt (key y) (key x) then y ∷ put_by key x ys else y ∷ ys)

-- one more page among ascending ones
abbrev pub with_page : ℕ → List ℕ → List ℕ
with_page page pages = put_by (λ n. n) page pages

-- more pages among ascending ones
abbrev pub with_pages : List ℕ → List ℕ → List ℕ
with_pages [] pages = pages
with_pages (page ∷ more) pages = with_pages more (with_page page pages)

abbrev pub held_pages : List Held → List ℕ
held_pages held = map (λ h. h.page) held

abbrev pub is_among : ℕ → List ℕ → Bool
is_among page pages = not (times page pages == 0)

-- the page is free or held
abbrev pub is_kept : FreePages → ℕ → Bool
is_kept f page = is_among page f.free || is_among page (held_pages f.held)

-- `is_kept` as a fact
abbrev pub IsFreeOrHeld : FreePages → ℕ → Type 0
IsFreeOrHeld f page = IsIn page f.free ⊎ IsIn page (held_pages f.held)

-- a generation below `generation` is pinned
abbrev pub is_pinned_below : ℕ → List ℕ → Bool
is_pinned_below generation pins = list_any (λ pin. nat_lt pin generation) pins

-- the generations without one pin of `generation`
abbrev pub without_pin : ℕ → List ℕ → List ℕ
without_pin generation [] = []
without_pin generation (pin ∷ pins) = if pin == generation then pins else pin ∷ without_pin generation pins

-- a page that is neither free nor held becomes free
abbrev pub with_free : FreePages → ℕ → FreePages
with_free f page = if is_kept f page then f else record f { free = with_page page f.free; spare = f.spare - 1 }

-- a page that is neither free nor held becomes held
abbrev pub with_held : FreePages → ℕ → ℕ → FreePages
with_held f page generation =
    if is_kept f page then f else record f { held = put_by (λ h. h.page) (record { page = page; generation = generation }) f.held; spare = f.spare - 1 }

-- a page that a commit to `generation` left is held while a generation below is pinned, and is free otherwise
abbrev pub with_left : FreePages → ℕ → ℕ → FreePages
with_left f page generation =
    let kept = if is_pinned_below generation f.pins then with_held f page generation else with_free f page in record kept { newest = max f.newest generation }

-- the held pages with a pin below them, given the pins
abbrev pub still_held : List ℕ → List Held → List Held
still_held pins held = filter (λ h. is_pinned_below h.generation pins) held

-- the pages of the other held ones
abbrev pub released : List ℕ → List Held → List ℕ
released pins held = held_pages (filter (λ h. not (is_pinned_below h.generation pins)) held)

-- with the given pins, each held page with no pin below it becomes free
abbrev pub with_pins : FreePages → List ℕ → FreePages
with_pins f pins = record f { free = with_pages (released pins f.held) f.free; pins = pins; held = still_held pins f.held }

-- free and held pages ascend, no page is both, and for each held page there is a pin below the generation of the commit
-- that left it
pub record IsKept (f : FreePages) : Type 0 where
  pub free_ascend : Ascends 0 f.free
  pub held_ascend : Ascends 0 (held_pages f.held)
  pub apart : AllByRecursion (λ h. times h.page f.free ≡ 0) f.held
  pub pinned : AllByRecursion (λ h. IsTrue (is_pinned_below h.generation f.pins)) f.held
