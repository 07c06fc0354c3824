-- What a cursor is, and what holds for it on a sound tree.
use Rattle.std.specs.Prelude.{◌≡◌, ◌↔◌, ℕ, ◌+◌, ◌-◌, ◌≤◌, List, [], ◌∷◌, ◌++◌, length, map, drop, Option, Some, None, slice_index_or}
use Rattle.std.specs.List.{flat_map}
use Rattle.metric_laws.specs.Space.{Space}
use Rattle.metric_laws.specs.Lists.{IsIn}
use Rattle.scan_model.specs.declared.hit.Hit.{Hit}
use Rattle.scan_model.specs.Scan.{nearest_hits}
use Rattle.tree_shape.specs.declared.live.Live.{Live}
use Rattle.tree_shape.specs.declared.entry.LeafEntry.{LeafEntry}
use Rattle.tree_shape.specs.declared.entry.InnerEntry.{InnerEntry}
use Rattle.tree_shape.specs.declared.entry.Node.{Node}
use Rattle.tree_shape.specs.declared.entry.Node.TheVariants.{Leaf, Inner}
use Rattle.tree_shape.specs.Tree.{Nodes, IsSoundAt, objects_at, objects, pages_at, points_by_id, tags_by_id, times}
use Rattle.page_store.specs.Placing.{live_pages}
use Rattle.page_store.specs.Reading.{nodes_of}
use Rattle.page_store.specs.Shelf.{Shelf}
use Rattle.nearest_search.specs.Walks.{HasOpened}
use Rattle.pin_cursor.specs.declared.waiting.Subtree.{Subtree}
use Rattle.pin_cursor.specs.declared.waiting.Candidate.{Candidate}

-- a cursor: its tree and its point, how many hits it has given, how many nodes it has opened, the subtrees that are not opened yet,
-- and the objects that were met and are not given yet
pub record OpenCursor : Type 0 where
  pub live : Live
  pub point : List ℕ
  pub given : ℕ
  pub opened : ℕ
  pub subtrees : List Subtree
  pub candidates : List Candidate

-- the root as a subtree
abbrev pub root_of : Live → Subtree
root_of live = record { low = 0; page = live.root }

-- a cursor that was just opened
abbrev pub begun : Live → List ℕ → OpenCursor
begun live q = record { live = live; point = q; given = 0; opened = 0; subtrees = root_of live ∷ []; candidates = [] }

-- a walk by child numbers from the root has opened as many pages as the cursor, and may go on with the cursor's subtrees
abbrev pub IsWalked : Nodes → OpenCursor → Type 0
IsWalked nodes c = HasOpened nodes (c.live.root ∷ []) c.opened (map (λ x. x.page) c.subtrees)

-- an object as a candidate, a subtree as it waits, and the hit of a candidate
abbrev pub candidate_of : Space → List ℕ → LeafEntry → Candidate
candidate_of s q e = record { dist = s.dist e.point q; id = e.id; tag = e.tag }

abbrev pub subtree_of : Space → List ℕ → InnerEntry → Subtree
subtree_of s q e = record { low = s.dist e.point q - e.radius; page = e.child }

abbrev pub hit_of : Candidate → Hit
hit_of c = record { id = c.id; dist = c.dist }

-- the level of a node
abbrev pub node_level : Option Node → ℕ
node_level None = 0
node_level (Some (Leaf es)) = 0
node_level (Some (Inner level es)) = level

-- the objects below a subtree's page, and its pages, down from its node's level
abbrev pub objects_below : Nodes → Subtree → List LeafEntry
objects_below nodes x = objects_at nodes (node_level (nodes x.page)) x.page

abbrev pub pages_below : Nodes → Subtree → List ℕ
pages_below nodes x = pages_at nodes (node_level (nodes x.page)) x.page

-- the candidates that a subtree will give
abbrev pub coming : Space → List ℕ → Nodes → Subtree → List Candidate
coming s q nodes x = map (candidate_of s q) (objects_below nodes x)

-- everything that waits: the candidates, and the objects of the subtrees
abbrev pub waiting : Space → Nodes → OpenCursor → List Candidate
waiting s nodes c = c.candidates ++ flat_map (coming s c.point nodes) c.subtrees

-- all objects of the cursor's tree
abbrev pub tree_candidates : Space → Nodes → OpenCursor → List Candidate
tree_candidates s nodes c = map (candidate_of s c.point) (objects nodes c.live)

-- the hits that are still to be given: the answers of a search for all objects, without those that were given
abbrev pub rest_of : Space → Nodes → OpenCursor → List Hit
rest_of s nodes c = drop c.given (nearest_hits s (points_by_id nodes c.live) c.point c.live.count)

-- the tags of hits
abbrev pub tags_of : Nodes → Live → List Hit → List ℕ
tags_of nodes live hits = map (λ h. slice_index_or (tags_by_id nodes live) h.id 0) hits

-- a sound subtree of the tree; none of its objects is nearer than its bound `low`
pub record IsSubtreeOf (s : Space) (nodes : Nodes) (live : Live) (q : List ℕ) (x : Subtree) : Type 0 where
  pub height : ℕ
  pub least : ℕ
  pub above : Option (List ℕ)
  pub sound : IsSoundAt s nodes height least above x.page
  pub low : (o : LeafEntry) → IsIn o (objects_at nodes height x.page) → x.low ≤ s.dist o.point q
  pub within : (page : ℕ) → IsIn page (pages_at nodes height x.page) → IsIn page (live_pages nodes live)

-- The cursor stands on the tree. Its subtrees are subtrees of the tree. What waits are the objects that are still to be given, each
-- once. The opened nodes and the nodes below the subtrees are together as many as the tree has.
pub record IsCursorOn (s : Space) (nodes : Nodes) (c : OpenCursor) : Type 0 where
  pub subtrees : (x : Subtree) → IsIn x c.subtrees → IsSubtreeOf s nodes c.live c.point x
  pub waits : (x : Candidate) → IsIn x (waiting s nodes c) ↔ (IsIn x (tree_candidates s nodes c) × IsIn (hit_of x) (rest_of s nodes c))
  pub once : (id : ℕ) → times id (map (λ x. x.id) (waiting s nodes c)) ≤ 1
  pub opened : c.opened + length (flat_map (pages_below nodes) c.subtrees) ≡ length (live_pages nodes c.live)

-- the pages hold the tree of the live slot
abbrev pub HoldsTree : Nodes → Live → Shelf → Type 0
HoldsTree nodes live shelf = (page : ℕ) → IsIn page (live_pages nodes live) → nodes_of shelf.read page ≡ nodes page
