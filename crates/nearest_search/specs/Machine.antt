-- The search by least possible distance: its queue, its least distances, and what holds of them.
use Rattle.std.specs.Prelude.{◌≡◌, ℕ, zero, suc, ◌+◌, ◌-◌, ◌≤◌, ◌<◌, ◌⊎◌, min, Bool, List, [], map, Option, Some, None, IsTrue, if◌then◌else◌, nat_le}
use Rattle.std.specs.List.{AllByRecursion}
use Rattle.metric_laws.specs.Space.{Space, bound}
use Rattle.metric_laws.specs.Lists.{IsIn}
use Rattle.tree_shape.specs.declared.entry.LeafEntry.{LeafEntry}
use Rattle.tree_shape.specs.declared.entry.InnerEntry.{InnerEntry}
use Rattle.tree_shape.specs.declared.entry.Node.{Node}
use Rattle.tree_shape.specs.declared.entry.Node.TheVariants.{Leaf, Inner}
use Rattle.tree_shape.specs.Tree.{Nodes, IsSoundAt, objects_at, inner_entries}
use Rattle.log_model.specs.Counts.{entry_count}
use Rattle.log_model.specs.Walk.{Search, away, search_at, least_marks, near_ones, hits_of}
use Rattle.nearest_search.specs.declared.pending.Pending.{Pending}
use Rattle.nearest_search.specs.Counts.{total, one_within, within}
use Rattle.nearest_search.specs.Keeping.{Sheets, IsKept}

-- the level of a node
abbrev pub level_of : Option Node → ℕ
level_of None = 0
level_of (Some (Leaf es)) = 0
level_of (Some (Inner level es)) = level

-- the objects below a page, as deep as its node's level
abbrev pub objects_below : Nodes → ℕ → List LeafEntry
objects_below nodes page = objects_at nodes (level_of (nodes page)) page

-- how many of the objects are within r of the search's point
abbrev pub count_near : Search → ℕ → List LeafEntry → ℕ
count_near f r os = total (λ o. one_within r (away f o.point)) os

abbrev pub count_below : Search → Nodes → ℕ → Pending → ℕ
count_below f nodes r x = count_near f r (objects_below nodes x.page)

-- the queued form of a subtree, and of the root
abbrev pub pending_of : Search → InnerEntry → Pending
pending_of f e = record { low = away f e.point - e.radius; page = e.child; above = Some (away f e.point) }

abbrev pub pending_root : ℕ → Pending
pending_root page = record { low = 0; page = page; above = None }

-- what an opened node adds: distances, and subtrees
abbrev pub dists_of : Search → Option ℕ → Node → List ℕ
dists_of f above node = map (λ h. h.dist) (hits_of f node (least_marks f above node))

abbrev pub pendings_of : Search → Option ℕ → Node → List Pending
pendings_of f above (Leaf es) = []
pendings_of f above (Inner level es) = map (pending_of f) (near_ones es (least_marks f above (Inner level es)))

-- the sphere of the entry reaches into the search's
abbrev pub reaches : Search → InnerEntry → Bool
reaches f e = nat_le (away f e.point) (f.rho + e.radius)

-- a page's weight: 1, or the number of its node's entries
abbrev pub one_page : ℕ → ℕ
one_page page = 1

abbrev pub entries_in : Option Node → ℕ
entries_in None = 0
entries_in (Some node) = entry_count node

abbrev pub entries_of : Nodes → ℕ → ℕ
entries_of nodes page = entries_in (nodes page)

-- the weight of the page and the pages below it that a walk with the least marks opens
abbrev pub opens : (ℕ → ℕ) → Search → Nodes → ℕ → ℕ → ℕ
opens w f nodes zero page = w page
opens w f nodes (suc h) page = w page + total (λ e. if reaches f e then opens w f nodes h e.child else 0) (inner_entries (nodes page))

abbrev pub opens_of : (ℕ → ℕ) → Search → Nodes → Pending → ℕ
opens_of w f nodes x = if nat_le x.low f.rho then opens w f nodes (level_of (nodes x.page)) x.page else 0

-- the distance of the k-th answer, or the bound where there are fewer
pub record IsFinal (k : ℕ) (count : ℕ → ℕ) (rho : ℕ) : Type 0 where
  pub bounded : rho ≤ bound
  pub fewer : (r : ℕ) → r < rho → count r < k
  pub enough : rho < bound → k ≤ count rho

-- how far the routing point above is
abbrev pub far_above : Search → Option (List ℕ) → Option ℕ
far_above f None = None
far_above f (Some p) = Some (away f p)

abbrev pub FitsUp : Space → Option (List ℕ) → Type 0
FitsUp s None = Unit {0}
FitsUp s (Some p) = IsTrue (s.is_point p)

-- the subtree is sound, and none of its objects is nearer than it says
pub record IsPending (f : Search) (nodes : Nodes) (x : Pending) : Type 0 where
  pub height : ℕ
  pub least : ℕ
  pub above : Option (List ℕ)
  pub sound : IsSoundAt f.space nodes height least above x.page
  pub is_point : FitsUp f.space above
  pub above_is : x.above ≡ far_above f above
  pub low_is : AllByRecursion (λ o. x.low ≤ away f o.point) (objects_at nodes height x.page)

-- what holds of the openings that are kept, at the final radius: what they reach is kept or queued
pub record IsClosed (f : Search) (nodes : Nodes) (kept : Sheets) (root : ℕ) (queue : List Pending) (opened : List ℕ) : Type 0 where
  pub begun : IsKept kept root None ⊎ IsIn (pending_root root) queue
  pub reached : (page : ℕ) (above : Option ℕ) → IsKept kept page above → (e : InnerEntry) → IsIn e (inner_entries (nodes page)) → IsTrue (reaches f e) →
      IsKept kept e.child (Some (away f e.point)) ⊎ IsIn (pending_of f e) queue
  pub weighed : (w : ℕ → ℕ) → total w opened + total (opens_of w f nodes) queue ≡ opens w f nodes (level_of (nodes root)) root

-- what holds between two steps, on a sound tree
pub record Holds (s : Space) (nodes : Nodes) (q : List ℕ) (k root : ℕ) (kept : Sheets) (queue : List Pending) (best : List ℕ) (opened : List ℕ) : Type 0 where
  pub queued : (x : Pending) → IsIn x queue → IsPending (search_at s q 0) nodes x
  pub counts : (r : ℕ) → r ≤ bound →
      min k (within r best + total (count_below (search_at s q 0) nodes r) queue) ≡ min k (count_near (search_at s q 0) r (objects_below nodes root))
  pub closed : (rho : ℕ) → IsFinal k (λ r. count_near (search_at s q 0) r (objects_below nodes root)) rho →
      IsClosed (search_at s q rho) nodes kept root queue opened
