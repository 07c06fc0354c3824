-- What a bulk load makes of an empty file.
use Rattle.std.specs.Prelude.{◌≡◌, ◌↔◌, ℕ, List, map, Some}
use Rattle.std.specs.List.{AllByRecursion}
use Rattle.metric_laws.specs.Space.{Space}
use Rattle.metric_laws.specs.Lists.{IsIn}
use Rattle.tree_shape.specs.declared.live.Live.{Live}
use Rattle.tree_shape.specs.Tree.{Nodes, IsSoundTree, points_by_id, tags_by_id, times}
use Rattle.tree_shape.specs.Plain.{tree_of}
use Rattle.tree_growth.specs.Bulk.{built}
use Rattle.page_store.specs.declared.staging.Placed.{Placed}
use Rattle.page_store.specs.declared.staging.StagedNode.{StagedNode}
use Rattle.page_store.specs.Placing.{AreOutside, live_pages, staged_tree}
use Rattle.page_store.specs.Staging.{pages_of}
use Rattle.bulk_load.specs.Postorder.{subtrees_of}

-- the staged nodes stand on their pages
abbrev pub Stand : List StagedNode → Nodes → Type 0
Stand staged nodes = AllByRecursion (λ s. nodes s.page ≡ Some s.node) staged

-- the pages that are left are those of the old live tree that are not in the new one
abbrev pub LeavesOld : Nodes → Live → Placed → Nodes → Type 0
LeavesOld old t placed new = (page : ℕ) → IsIn page placed.left ↔ (IsIn page (live_pages old t) × (IsIn page (live_pages new placed.next) → ⊥))

-- Nodes that hold the staged ones have the tree of the rows and of nothing else. The tree is sound, its subtrees were staged children
-- first, and its pages are the staged ones. For every sound old tree that none of `numbers` lies in, exactly its pages that are not
-- in the new tree are left.
pub record HasLoaded (s : Space) (rows : List (List ℕ)) (labels : List ℕ) (t : Live) (numbers : List ℕ) (placed : Placed) (new : Nodes) : Type 0 where
  pub tree : tree_of new placed.next ≡ built s rows labels
  pub sound : IsSoundTree s new placed.next
  pub points : points_by_id new placed.next ≡ rows
  pub tags : tags_by_id new placed.next ≡ labels
  pub fresh : map (staged_tree new) placed.staged ≡ subtrees_of (built s rows labels)
  pub pages : (page : ℕ) → times page (live_pages new placed.next) ≡ times page (pages_of placed.staged)
  pub left : (old : Nodes) → IsSoundTree s old t → AreOutside old t numbers → LeavesOld old t placed new
