-- How free and held pages are kept in memory.
use Rattle.std.specs.Prelude.{◌≡◌, ℕ, ◌+◌, ◌≤◌, nat_lt, Bool, true, false, Option, Some, None, Result, MatchResult, List, ◌++◌, filter, not, map, insert, length}
use Rattle.free_pages.specs.declared.held.Held.{Held}
use Rattle.free_pages.specs.Keeping.{FreePages, IsKept, held_pages, is_among, put_by}

-- what the search for a key returns: `Ok` where a value with the key is there, or `Err` with the place where such a value belongs
abbrev pub IsPlaceBy : {X : Type 0} → (X → ℕ) → ℕ → List X → Result ℕ ℕ → Type 0
IsPlaceBy {X} key n xs r = MatchResult r
    (λ i. (is_among n (map key xs) ≡ true) × ((v : X) → key v ≡ n → put_by key v xs ≡ xs))
    (λ i. (is_among n (map key xs) ≡ false) × (i ≤ length xs) × ((v : X) → key v ≡ n → put_by key v xs ≡ insert xs i v))

-- the same where the numbers are their own keys
abbrev pub IsPlace : ℕ → List ℕ → Result ℕ ℕ → Type 0
IsPlace n xs r = MatchResult r
    (λ i. (is_among n xs ≡ true) × (put_by (λ m. m) n xs ≡ xs))
    (λ i. (is_among n xs ≡ false) × (i ≤ length xs) × (put_by (λ m. m) n xs ≡ insert xs i n))

-- the least pinned generation, if there is one, is below `generation`
abbrev pub is_below : Option ℕ → ℕ → Bool
is_below None generation = false
is_below (Some pin) generation = nat_lt pin generation

-- the held pages with the least pin below them
abbrev pub held_below : Option ℕ → List Held → List Held
held_below least held = filter (λ h. is_below least h.generation) held

-- the pages of the other held ones
abbrev pub freed_below : Option ℕ → List Held → List ℕ
freed_below least held = held_pages (filter (λ h. not (is_below least h.generation)) held)

-- there is room for what is spare, and for each held page among the free ones
pub record IsStored (f : FreePages) (free_capacity held_capacity : ℕ) : Type 0 where
  pub kept : IsKept f
  pub free_room : length f.free + length f.held + f.spare ≤ free_capacity
  pub held_room : length f.held + f.spare ≤ held_capacity

-- each held page of a queue in turn goes to its back or to the end of the free pages; `left` pages are left
pub record IsReleasing (least : Option ℕ) (old_free : List ℕ) (old_held : List Held) (free : List ℕ) (held : List Held) (left : ℕ) : Type 0 where
  pub done : List Held
  pub rest : List Held
  pub whole : old_held ≡ done ++ rest
  pub queue : held ≡ rest ++ held_below least done
  pub released : free ≡ old_free ++ freed_below least done
  pub count : length rest ≡ left
