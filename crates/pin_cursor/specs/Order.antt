-- The order in which subtrees are opened and objects are given.
use Rattle.std.specs.Prelude.{◌≡◌, ◌⊎◌, ℕ, ◌≤◌, ◌<◌, List, [], Option, Some, None}
use Rattle.std.specs.declared.cmp.Ordering.{Ordering}
use Rattle.std.specs.Ordering.{nat_cmp, ordering_then}
use Rattle.metric_laws.specs.Lists.{IsIn}
use Rattle.pin_cursor.specs.declared.waiting.Subtree.{Subtree}
use Rattle.pin_cursor.specs.declared.waiting.Candidate.{Candidate}

-- nearer first, then by page
abbrev pub subtree_order : Subtree → Subtree → Ordering
subtree_order a b = ordering_then (nat_cmp a.low b.low) (nat_cmp a.page b.page)

-- nearer first, then by id
abbrev pub candidate_order : Candidate → Candidate → Ordering
candidate_order a b = ordering_then (nat_cmp a.dist b.dist) (ordering_then (nat_cmp a.id b.id) (nat_cmp a.tag b.tag))

-- the distance of one of the candidates, if there are any
abbrev pub IsReach : List Candidate → Option ℕ → Type 0
IsReach cs None = cs ≡ []
IsReach cs (Some reach) = (c : Candidate) × IsIn c cs × (c.dist ≡ reach)

-- further than the reach, if there is one
abbrev pub IsBeyond : Option ℕ → ℕ → Type 0
IsBeyond None low = ⊥
IsBeyond (Some reach) low = reach < low

-- all are further than the reach; without a reach there are none
abbrev pub AllBeyond : Option ℕ → List Subtree → Type 0
AllBeyond None xs = xs ≡ []
AllBeyond (Some reach) xs = (x : Subtree) → IsIn x xs → reach < x.low

-- the candidate is nearer than each of the others, or as near and of no greater id
abbrev pub IsFirst : Candidate → List Candidate → Type 0
IsFirst c cs = (y : Candidate) → IsIn y cs → (c.dist < y.dist) ⊎ ((c.dist ≡ y.dist) × (c.id ≤ y.id))
