-- The pages of new nodes.
use Rattle.std.specs.Prelude.{ℕ, ◌+◌, ◌-◌, ◌<◌, ◌≤◌, List, [], ◌∷◌, length, slice_index_or, if◌then◌else◌, nat_lt}
use Rattle.std.specs.List.{AllByRecursion}
use Rattle.tree_shape.specs.declared.entry.Node.{Node}
use Rattle.page_store.specs.declared.staging.StagedNode.{StagedNode}

-- the page of the new node `i`: first the numbers that are given, then pages from `first` on
abbrev pub number_at : List ℕ → ℕ → ℕ → ℕ
number_at numbers first i = if nat_lt i (length numbers) then slice_index_or numbers i 0 else first + (i - length numbers)

-- nodes with their pages; the first node has the number `i`
abbrev pub numbered : (ℕ → ℕ) → ℕ → List Node → List StagedNode
numbered number i [] = []
numbered number i (n ∷ ns) = record { page = number i; node = n } ∷ numbered number (i + 1) ns

-- the pages for new nodes ascend strictly, from `low` on
abbrev pub Ascends : ℕ → List ℕ → Type 0
Ascends low [] = Unit {0}
Ascends low (n ∷ ns) = (low ≤ n) × Ascends (n + 1) ns

-- the numbers ascend strictly from 3 on and are below the number of pages
pub record AreNumbers (pages : ℕ) (numbers : List ℕ) : Type 0 where
  pub ascending : Ascends 3 numbers
  pub below : AllByRecursion (λ n. n < pages) numbers
