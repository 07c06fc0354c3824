-- What opening a page does.
use Rattle.std.specs.Prelude.{◌≡◌, ◌⊎◌, ℕ, ◌+◌, ◌≤◌, List, ◌++◌, map, min, Option, Some, IsPermutation}
use Rattle.metric_laws.specs.Space.{Space}
use Rattle.tree_shape.specs.declared.entry.LeafEntry.{LeafEntry}
use Rattle.tree_shape.specs.declared.entry.InnerEntry.{InnerEntry}
use Rattle.tree_shape.specs.declared.entry.Node.{Node}
use Rattle.page_store.specs.Shelf.{Shelf, IsNodeOf}
use Rattle.log_model.specs.Counts.{entry_count}
use Rattle.log_model.specs.Walk.{Search, near_ones, hit_of, leaf_marks, inner_marks}
use Rattle.nearest_search.specs.declared.kept.Span.{Span}
use Rattle.nearest_search.specs.declared.pending.Pending.{Pending}
use Rattle.nearest_search.specs.declared.seen.Sight.{Sight}
use Rattle.nearest_search.specs.Counts.{within}
use Rattle.nearest_search.specs.Seeing.{Seen, IsSeenOf}
use Rattle.nearest_search.specs.Keeping.{Grows, LiesWithin, Sheets, seen_at}
use Rattle.nearest_search.specs.Machine.{dists_of, pendings_of, pending_of}

-- the distances of the objects that the least marks leave in a leaf
abbrev pub leaf_dists : Search → Option ℕ → List LeafEntry → List ℕ
leaf_dists f above es = map (λ h. h.dist) (map (hit_of f) (near_ones es (leaf_marks f above es)))

-- the subtrees that the least marks leave in an inner node
abbrev pub inner_pendings : Search → Option ℕ → List InnerEntry → List Pending
inner_pendings f above es = map (pending_of f) (near_ones es (inner_marks f above es))

-- the new list has the k least of the old distances and the new ones, as far as counts tell
abbrev pub Takes : ℕ → List ℕ → List ℕ → List ℕ → Type 0
Takes k old new ds = (r : ℕ) → min k (within r new) ≡ min k (within r old + within r ds)

-- what was seen of the node's entries was appended to the blocks, and stands at the span
pub record Sees (s : Space) (q : List ℕ) (rho : ℕ) (above : Option ℕ) (node : Node) (old new : List (List Sight)) (span : Span) : Type 0 where
  pub grows : Grows old new
  pub within : LiesWithin new span
  pub seen_is : IsSeenOf s q rho above node (seen_at new span)

-- what a search knows in the middle: the subtrees that are not opened yet, the least distances, what was seen of the opened pages,
-- and the count of the distances that were computed
pub record State : Type 0 where
  pub queue : List Pending
  pub best : List ℕ
  pub kept : Sheets
  pub used : ℕ

-- the page of `x` was read at the search's radius
pub record IsOpened (f : Search) (shelf : Shelf) (k : ℕ) (x : Pending) (old new : State) : Type 0 where
  pub node : Node
  pub is : IsNodeOf shelf x.page node
  pub pushed : IsPermutation (pendings_of f x.above node ++ old.queue) new.queue
  pub noted : Takes k old.best new.best (dists_of f x.above node)
  pub seen : Seen
  pub seen_is : IsSeenOf f.space f.point f.rho x.above node seen
  pub measured : new.used ≤ old.used + entry_count node
  pub here : new.kept x.page x.above ≡ Some seen
  pub others : (page : ℕ) (above : Option ℕ) → ((page ≡ x.page) × (above ≡ x.above)) ⊎ (new.kept page above ≡ old.kept page above)
