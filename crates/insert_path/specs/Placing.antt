-- What an insertion makes of the tree of a file.
use Rattle.std.specs.Prelude.{◌≡◌, ◌↔◌, ℕ, ◌+◌, zero, suc, Bool, true, false, List, [], ◌∷◌, ◌++◌, length, map, Option, Some, None, ◌==◌, ◌&&◌}
use Rattle.metric_laws.specs.Space.{Space}
use Rattle.metric_laws.specs.Lists.{IsIn}
use Rattle.tree_shape.specs.declared.live.Live.{Live}
use Rattle.tree_shape.specs.Tree.{Nodes, inner_entries, IsSoundTree, points_by_id, tags_by_id, times}
use Rattle.tree_shape.specs.Plain.{Object, Branch, Plain, Tall, tree_at, tree_of}
use Rattle.tree_growth.specs.Insertion.{Rules, Grown, One, Two, inserted, branch_ball, placed_by}
use Rattle.page_store.specs.declared.pages.PageFault.{PageFault}
use Rattle.page_store.specs.declared.pages.PageFault.TheVariants.{Level}
use Rattle.page_store.specs.declared.staging.Placed.{Placed}
use Rattle.page_store.specs.Reading.{Read, nodes_of}
use Rattle.page_store.specs.Staging.{pages_of}
use Rattle.insert_path.specs.Walk.{chosen_child, walk_fault}
use Rattle.page_store.specs.Placing.{live_pages, staged_tree}

-- the pages that a point's walk opens, from a page at a height down
abbrev pub walk_pages : Space → Nodes → List ℕ → ℕ → ℕ → List ℕ
walk_pages s nodes p zero page = page ∷ []
walk_pages s nodes p (suc h) page = page ∷ walk_pages s nodes p h (chosen_child s p (inner_entries (nodes page)))

-- whether a node has grown to two halves
abbrev pub is_split : {X : Type 0} → Grown X → Bool
is_split (One t) = false
is_split (Two c d) = true

-- the first fault of an insertion: one of the walk, or a root that would be split at height 14
abbrev pub or_level : Option PageFault → Bool → ℕ → Option PageFault
or_level (Some fault) b root = Some fault
or_level None true root = Some (Level root)
or_level None false root = None

abbrev pub place_fault : Space → Rules → Read → Live → Object → Option PageFault
place_fault s R read t o =
    or_level (walk_fault s read o.point t.height t.root) ((t.height == 14) && is_split (inserted R o t.height (tree_at (nodes_of read) t.height t.root))) t.root

-- the new subtrees where a node has grown: its halves, the first before the second
abbrev pub parts : (h : ℕ) → Grown (Plain h) → List Tall
parts h (One t) = record { height = h; tree = t } ∷ []
parts h (Two c d) = record { height = h; tree = c.below } ∷ record { height = h; tree = d.below } ∷ []

abbrev pub fresh_in : {X : Type 0} → (X → List Tall) → ℕ → List (Branch X) → List Tall
fresh_in f i [] = []
fresh_in f zero (b ∷ bs) = f b.below
fresh_in f (suc i) (b ∷ bs) = fresh_in f i bs

-- the new subtrees of an insertion, from the leaf upward
abbrev pub fresh : Rules → Object → (h : ℕ) → Plain h → List Tall
fresh R o zero os = parts zero (inserted R o zero os)
fresh R o (suc h) bs = fresh_in (fresh R o h) (R.choose (map branch_ball bs) o.point) bs ++ parts (suc h) (inserted R o (suc h) bs)

-- a new root, if there is one
abbrev pub fresh_root : (h : ℕ) → Grown (Plain h) → List Tall
fresh_root h (One t) = []
fresh_root h (Two c d) = record { height = suc h; tree = c ∷ d ∷ [] } ∷ []

abbrev pub fresh_of : Rules → Object → Tall → List Tall
fresh_of R o t = fresh R o t.height t.tree ++ fresh_root t.height (inserted R o t.height t.tree)

-- what the walk made: there is no fault, as many nodes are staged as there are new subtrees, and the pages of the walk are left
pub record HasWalked (s : Space) (R : Rules) (read : Read) (t : Live) (o : Object) (placed : Placed) : Type 0 where
  pub faultless : place_fault s R read t o ≡ None
  pub many : length placed.staged ≡ length (fresh_of R o (tree_of (nodes_of read) t))
  pub left : placed.left ≡ walk_pages s (nodes_of read) o.point t.height t.root

-- The file with the staged nodes has the tree of the insertion. The tree is sound, its list has one object more, and its staged nodes
-- are the new subtrees from the leaf upward. The pages that are left are those of the old tree that are not in the new one: the new
-- tree's pages and the left ones together are the old tree's and the staged ones.
pub record HasInserted (s : Space) (R : Rules) (old : Nodes) (t : Live) (o : Object) (placed : Placed) (new : Nodes) : Type 0 where
  pub tree : tree_of new placed.next ≡ placed_by R o (tree_of old t)
  pub sound : IsSoundTree s new placed.next
  pub points : points_by_id new placed.next ≡ points_by_id old t ++ o.point ∷ []
  pub tags : tags_by_id new placed.next ≡ tags_by_id old t ++ o.tag ∷ []
  pub fresh : map (staged_tree new) placed.staged ≡ fresh_of R o (tree_of old t)
  pub left : (page : ℕ) → IsIn page placed.left ↔ (IsIn page (live_pages old t) × (IsIn page (live_pages new placed.next) → ⊥))
  pub balance : (page : ℕ) → times page (live_pages new placed.next) + times page placed.left ≡ times page
      (live_pages old t) + times page (pages_of placed.staged)
