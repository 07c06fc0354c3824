-- What is placed beside a live tree can be committed.
use Rattle.std.specs.Prelude.{◌≡◌, ◌⊎◌, ℕ, ◌≤◌, List}
use Rattle.std.specs.List.{AllByRecursion}
use Rattle.std.proofs.Common.{ap}
use Rattle.disk_model.specs.Disk.{DiskState, LeavesOnly}
use Rattle.metric_laws.specs.Space.{Space}
use Rattle.tree_shape.specs.declared.live.Live.{Live}
use Rattle.tree_shape.specs.Tree.{Nodes, IsNodePage, IsSoundTree, points_by_id, tags_by_id}
use Rattle.node_page.specs.declared.head.Head.{Head}
use Rattle.node_page.specs.Opening.{OpensTo, page_of}
use Rattle.page_store.specs.Files.{IsSoundFile, nodes_in, points_in, tags_in}
use Rattle.page_store.specs.Laws.{AreNew}
use Rattle.page_store.specs.declared.staging.Placed.{Placed}
use Rattle.page_store.specs.declared.staging.StagedNode.{StagedNode}
use Rattle.page_store.specs.Placing.{IsOver, IsPlacement}
use Rattle.page_store.specs.Reached.{StandsOnPages}
use Rattle.page_store.specs.Staging.{pages_of}
use Rattle.page_store.specs.Succession.{IsWritten}
use Rattle.shadow_root.specs.Commit.{HasNext, IsInPlace, IsNotStaged, IsOldPage, IsStagedAs, IsStagedFor, KeepsOthers, KeepsTree}
use Rattle.shadow_root.specs.Live.{HasLive, IsLivePage, IsSuccessor}

-- a placement has a live slot that can follow, and its nodes are staged for it
abbrev pub PlacementsCanFollow : Type 0
PlacementsCanFollow =
    (head : Head) (t : Live) (numbers : List ℕ) (added : ℕ) (placed : Placed) → t.side ≤ 1 → IsPlacement head t numbers added placed →
    IsSuccessor t placed.next × IsStagedFor head.dim t placed.next placed.staged

-- staged pages on which the live tree doesn't stand are beside it, as a commit asks
abbrev pub NewIsBeside : Type 0
NewIsBeside =
    (nodes : Nodes) (t next : Live) (tree : List ℕ) (staged : List StagedNode) → StandsOnPages nodes t tree → AreNew next tree (pages_of staged) →
    (k : ℕ) (node : StagedNode) → IsStagedAs staged k node → IsLivePage nodes t node.page → ⊥

-- page 0 and each old page that is not staged have the bytes that they had
abbrev pub KeepsBytes : Live → List StagedNode → List ℕ → List ℕ → Type 0
KeepsBytes t staged old file = (page : ℕ) → IsOldPage t page → IsNotStaged staged page → page_of file page ≡ page_of old page

-- a commit that began on a disk that left one file keeps the bytes of that file
pub alone_keeps : (t : Live) (staged : List StagedNode) (start : DiskState) (file : List ℕ) → LeavesOnly start start.bytes →
    KeepsOthers t staged start file → KeepsBytes t staged start.bytes file
alone_keeps t staged start file only others page old none = others page (page_of start.bytes page) old none (λ image left.
    ap (λ (bytes : List ℕ). page_of bytes page) (only image left))

-- in a file with the staged nodes in place, and with the other pages as they were, the staged nodes are written over the old file
abbrev pub InPlaceIsWritten : Type 0
InPlaceIsWritten =
    (dim : ℕ) (t next : Live) (tree : List ℕ) (staged : List StagedNode) (old new : List ℕ) → t.pages ≤ next.pages → AllByRecursion (IsNodePage t) tree →
    IsStagedFor dim t next staged → IsInPlace dim staged new → KeepsBytes t staged old new →
    IsWritten (nodes_in dim t old) tree staged (nodes_in dim next new)

-- a file that opens to the next live slot and has the old page 0 has the old head
abbrev pub CommitsKeepHead : Type 0
CommitsKeepHead =
    (dim : ℕ) (head : Head) (t next : Live) (staged : List StagedNode) (old file : List ℕ) → OpensTo old head t →
    IsStagedFor dim t next staged → KeepsBytes t staged old file → HasLive next file →
    OpensTo file head next

-- the tree is sound, with the points and tags in order of id
pub record IsTreeOf (s : Space) (nodes : Nodes) (t : Live) (points : List (List ℕ)) (tags : List ℕ) : Type 0 where
  pub sound : IsSoundTree s nodes t
  pub points_are : points_by_id nodes t ≡ points
  pub tags_are : tags_by_id nodes t ≡ tags

-- the file is sound, with the points and tags in order of id
pub record IsFileOf (s : Space) (head : Head) (t : Live) (points : List (List ℕ)) (tags : List ℕ) (file : List ℕ) : Type 0 where
  pub opens : OpensTo file head t
  pub version : head.version ≡ 2
  pub dimension : s.dimension ≡ head.dim
  pub tree : IsTreeOf s (nodes_in head.dim t file) t points tags

-- What a commit on a sound file leaves at any moment has the old points and tags, or those of the next tree, where every file
-- over the old one has a sound tree with them.
abbrev pub CommitsKeepLists : Type 0
CommitsKeepLists =
    (s : Space) (head : Head) (t next : Live) (staged : List StagedNode) (points : List (List ℕ)) (tags : List ℕ) (old file : List ℕ) →
    IsSoundFile s head t old → IsSuccessor t next → IsStagedFor head.dim t next staged →
    ((new : Nodes) → IsOver (nodes_in head.dim t old) t staged new → IsTreeOf s new next points tags) →
    KeepsTree head.dim t old file ⊎ HasNext head.dim next staged file → KeepsBytes t staged old file →
    IsFileOf s head t (points_in head.dim t old) (tags_in head.dim t old) file ⊎ IsFileOf s head next points tags file
