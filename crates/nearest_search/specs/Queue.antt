-- The queue of subtrees that aren't opened yet.
use Rattle.std.specs.Prelude.{ℕ, ◌≤◌, ◌<◌, List, ◌∷◌, IsPermutation}
use Rattle.std.specs.declared.cmp.Ordering.{Ordering}
use Rattle.std.specs.Ordering.{nat_cmp, ordering_then}
use Rattle.std.specs.Option.{option_cmp}
use Rattle.metric_laws.specs.Lists.{IsIn}
use Rattle.nearest_search.specs.declared.pending.Pending.{Pending}

-- nearer first, then by page
abbrev pub pending_order : Pending → Pending → Ordering
pending_order a b = ordering_then (nat_cmp a.low b.low) (ordering_then (nat_cmp a.page b.page) (option_cmp nat_cmp a.above b.above))

-- the nearest of the old subtrees was taken, and it is within rho
pub record IsNext (rho : ℕ) (old : List Pending) (x : Pending) (new : List Pending) : Type 0 where
  pub popped : IsPermutation old (x ∷ new)
  pub low : x.low ≤ rho
  pub first : (y : Pending) → IsIn y old → x.low ≤ y.low

-- all queued subtrees are beyond rho
abbrev pub AllBeyond : ℕ → List Pending → Type 0
AllBeyond rho xs = (y : Pending) → IsIn y xs → rho < y.low
