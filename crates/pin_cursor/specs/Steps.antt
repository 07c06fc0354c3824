-- What a step does, and why it may fail.
use Rattle.std.specs.Prelude.{◌≡◌, ◌⊎◌, ℕ, ◌+◌, ◌-◌, ◌*◌, ◌≤◌, false, List, [], ◌∷◌, ◌++◌, length, map, take, Some, Err, IsTrue, IsPermutation}
use Rattle.std.specs.List.{AllByRecursion, flat_map}
use Rattle.metric_laws.specs.Space.{Space}
use Rattle.metric_laws.specs.Lists.{IsIn}
use Rattle.outside_io.specs.Causes.{Rose}
use Rattle.scan_model.specs.declared.hit.Hit.{Hit}
use Rattle.tree_shape.specs.declared.live.Live.{Live}
use Rattle.tree_shape.specs.declared.entry.Node.{Node}
use Rattle.tree_shape.specs.Tree.{Nodes, IsSoundTree, leaf_entries, inner_entries}
use Rattle.page_store.specs.declared.pages.PageFault.{PageFault}
use Rattle.page_store.specs.declared.pages.PageFault.TheVariants.{Disk, Bad, Outside, Memory, Repeats, Level}
use Rattle.page_store.specs.Reached.{IsReached}
use Rattle.page_store.specs.Reading.{IsWithin, is_within, nodes_of}
use Rattle.page_store.specs.Shelf.{Shelf, HoldsSame, IsNodeOf}
use Rattle.metric_laws.specs.Counts.{count_up}
use Rattle.nearest_search.specs.Walks.{OpensBefore}
use Rattle.pin_cursor.specs.declared.waiting.Subtree.{Subtree}
use Rattle.pin_cursor.specs.declared.waiting.Candidate.{Candidate}
use Rattle.pin_cursor.specs.Cursor.{OpenCursor, IsCursorOn, IsWalked, HoldsTree, candidate_of, subtree_of, hit_of, rest_of, tags_of}

-- child numbers lead to the page from a subtree that waits
abbrev pub IsReachedFrom : Nodes → OpenCursor → ℕ → Type 0
IsReachedFrom nodes c page = (x : Subtree) × IsIn x c.subtrees × IsReached nodes x.page page

-- why a step fails: the disk failed; memory ran out; a reached page holds no node, or is outside the file; or this step and the
-- earlier successful ones opened as many nodes as the file has pages, and this reached page was to be opened too. Where the cursor
-- is a walk by child numbers, such a walk reaches the page after opening as many pages
abbrev pub HasStepCause : OpenCursor → Shelf → Shelf → PageFault → Type 0
HasStepCause c old new Disk = Rose old.faults new.faults
HasStepCause c old new Memory = Unit {0}
HasStepCause c old new (Bad page fault) =
    IsWithin old.pages page × (IsTrue old.is_known → (old.read page ≡ Err (Bad page fault)) × IsReachedFrom (nodes_of old.read) c page)
HasStepCause c old new (Outside page) =
    (is_within old.pages page ≡ false) × (IsTrue old.is_known → (old.read page ≡ Err (Outside page)) × IsReachedFrom (nodes_of old.read) c page)
HasStepCause c old new (Repeats page) =
    (new.asked ≡ count_up old.asked (c.live.pages - c.opened))
    × (IsTrue old.is_known → IsReachedFrom (nodes_of old.read) c page
    × (IsWalked (nodes_of old.read) c → OpensBefore (nodes_of old.read) (c.live.root ∷ []) c.live.pages page))
HasStepCause c old new (Level page) = ⊥

-- a page was opened: the objects of its leaf become candidates, and the subtrees of its inner node wait
pub record IsOpened (s : Space) (q : List ℕ) (shelf : Shelf) (page : ℕ) (old new : List Candidate) (before after : List Subtree) : Type 0 where
  pub node : Node
  pub is : IsNodeOf shelf page node
  pub candidates : IsPermutation (map (candidate_of s q) (leaf_entries (Some node)) ++ old) new
  pub subtrees : IsPermutation (map (subtree_of s q) (inner_entries (Some node)) ++ before) after

-- the contents of the node on a subtree's page: the objects of a leaf, the subtrees of an inner node
abbrev pub objects_in : Space → List ℕ → Nodes → Subtree → List Candidate
objects_in s q nodes x = map (candidate_of s q) (leaf_entries (nodes x.page))

abbrev pub subtrees_in : Space → List ℕ → Nodes → Subtree → List Subtree
subtrees_in s q nodes x = map (subtree_of s q) (inner_entries (nodes x.page))

-- the page of a subtree holds a node
abbrev pub HasNode : Nodes → Subtree → Type 0
HasNode nodes x = (node : Node) × (nodes x.page ≡ Some node)

-- On any tree: some subtrees were opened, and each of them has a node. Each subtree that waited, or is in one of these nodes, was
-- opened or waits now. Each object that waited, or is in one of these nodes, was given or waits now.
pub record IsAccounted (s : Space) (nodes : Nodes) (old new : OpenCursor) (hits : List Hit) (tags : List ℕ) : Type 0 where
  pub opened : List Subtree
  pub given : List Candidate
  pub count : new.opened ≡ old.opened + length opened
  pub have : AllByRecursion (HasNode nodes) opened
  pub subtrees : IsPermutation (old.subtrees ++ flat_map (subtrees_in s old.point nodes) opened) (opened ++ new.subtrees)
  pub objects : IsPermutation (old.candidates ++ flat_map (objects_in s old.point nodes) opened) (given ++ new.candidates)
  pub hits_are : hits ≡ map hit_of given
  pub tags_are : tags ≡ map (λ c. c.tag) given

-- the hits are the next ones, with their tags, and the cursor stands after them
pub record Gives (s : Space) (nodes : Nodes) (old new : OpenCursor) (hits : List Hit) (tags : List ℕ) : Type 0 where
  pub hits_are : hits ≡ take (length hits) (rest_of s nodes old)
  pub tags_are : tags ≡ tags_of nodes old.live hits
  pub stands : IsCursorOn s nodes new

-- A cursor has given some hits and opened some nodes, and asked for each of these nodes once. Where it was a walk by child numbers,
-- it still is one. Where the pages tell a sound tree that it stood on, the hits are the next ones, and it still stands on the tree.
pub record IsUnderWay (s : Space) (old now : Shelf) (start c : OpenCursor) (hits : List Hit) (tags : List ℕ) : Type 0 where
  pub same : HoldsSame old now
  pub more : start.opened ≤ c.opened
  pub few : c.opened ≤ start.live.pages
  pub asked : now.asked ≡ count_up old.asked (c.opened - start.opened)
  pub reads : now.reads ≤ old.reads + (c.opened - start.opened)
  pub given : c.given ≡ start.given + length hits
  pub tagged : length tags ≡ length hits
  pub room : c.given + length c.candidates ≤ 32 * c.opened
  pub reached : IsTrue old.is_known → (x : Subtree) → IsIn x c.subtrees → IsReachedFrom (nodes_of old.read) start x.page
  pub walks : IsTrue old.is_known → IsWalked (nodes_of old.read) start → IsWalked (nodes_of old.read) c
  pub accounted : IsTrue old.is_known → IsAccounted s (nodes_of old.read) start c hits tags
  pub gives : (nodes : Nodes) → IsTrue old.is_known → IsSoundTree s nodes start.live → HoldsTree nodes start.live old → IsCursorOn s nodes start →
      Gives s nodes start c hits tags

-- a cursor with these parts
abbrev pub stage : Live → List ℕ → ℕ → ℕ → List Subtree → List Candidate → OpenCursor
stage live q given opened xs cs = record { live = live; point = q; given = given; opened = opened; subtrees = xs; candidates = cs }

-- as many hits as were wanted, or nothing waits
abbrev pub HasGiven : ℕ → List Hit → List Candidate → List Subtree → Type 0
HasGiven n hits cs xs = (length hits ≡ n) ⊎ ((length hits ≤ n) × (cs ≡ []) × (xs ≡ []))

-- the hits are the next n, or all that are left, with their tags; and the cursor stands after them
pub record GivesNext (s : Space) (nodes : Nodes) (old new : OpenCursor) (n : ℕ) (hits : List Hit) (tags : List ℕ) : Type 0 where
  pub hits_are : hits ≡ take n (rest_of s nodes old)
  pub tags_are : tags ≡ tags_of nodes old.live hits
  pub stands : IsCursorOn s nodes new
