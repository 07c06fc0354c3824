-- What a write makes of an index, and what a crash in it may leave.
use Rattle.std.specs.Prelude.{◌≡◌, ◌≢◌, ◌⊎◌, ◌↔◌, ℕ, ◌+◌, ◌-◌, ◌≤◌, true, IsTrue, List, [], ◌∷◌, ◌++◌, length, map, take, min, Option, Some, None, MatchOption, Result, IfOk, IfErr, OnOk}
use Rattle.std.specs.List.{AllByRecursion, range_with_len}
use Rattle.metric_laws.specs.Lists.{IsIn}
use Rattle.metric_laws.specs.Space.{Space}
use Rattle.outside_io.specs.Causes.{Rose}
use Rattle.disk_model.specs.Disk.{DiskState, LeavesOnly, EachImage, IsUnchanged}
use Rattle.tree_shape.specs.declared.live.Live.{Live}
use Rattle.tree_shape.specs.Tree.{Nodes, IsSoundTree, points_by_id, tags_by_id, times}
use Rattle.tree_shape.specs.Plain.{Tall, tree_of}
use Rattle.tree_growth.specs.Insertion.{placed}
use Rattle.tree_growth.specs.Bulk.{built}
use Rattle.node_page.specs.declared.head.Head.{Head}
use Rattle.node_page.specs.Opening.{page_of}
use Rattle.page_store.specs.declared.staging.Placed.{Placed}
use Rattle.page_store.specs.Placing.{AreOutside as AreBeside, IsOver, IsPlacement, live_pages}
use Rattle.page_store.specs.Numbers.{number_at}
use Rattle.page_store.specs.Staging.{pages_of}
use Rattle.page_store.specs.Reading.{IsWithin}
use Rattle.page_store.specs.Succession.{TakesPlace, StandsByItself}
use Rattle.shadow_root.specs.Commit.{HasNext}
use Rattle.shadow_root.specs.Placements.{IsFileOf, IsTreeOf}
use Rattle.page_cache.specs.Keeping.{Pairs, without}
use Rattle.free_pages.specs.Keeping.{FreePages}
use Rattle.free_pages.specs.Commits.{after_commit, AreOutside, AreWithin, IsGuarded}
use Rattle.index_core.specs.declared.faults.IndexFault.{IndexFault}
use Rattle.index_core.specs.declared.faults.IndexFault.TheVariants.{Commit}
use Rattle.index_core.specs.Answers.{points_on, tags_on}
use Rattle.index_core.specs.Causes.{IsListOf, offered_pages}
use Rattle.index_core.specs.Files.{OpenFile, StandsOn, nodes_on}
use Rattle.index_core.specs.Index.{OpenIndex, AreSpare}
use Rattle.index_core.specs.Lending.{SameRoom}

-- ---- what is written

-- one more object, with its point and its tag; or all objects at once, for an index that has none
pub data Write : Type 0 where
  Inserts : List ℕ → ℕ → Write
  Loads : List (List ℕ) → List ℕ → Write

-- the points of the objects after the write, in order of id, and their tags
abbrev pub points_after : Write → List (List ℕ) → List (List ℕ)
points_after (Inserts point tag) points = points ++ point ∷ []
points_after (Loads rows labels) points = rows

abbrev pub tags_after : Write → List ℕ → List ℕ
tags_after (Inserts point tag) tags = tags ++ tag ∷ []
tags_after (Loads rows labels) tags = labels

-- how many objects the write adds
abbrev pub added_by : Write → ℕ
added_by (Inserts point tag) = 1
added_by (Loads rows labels) = length rows

-- the answer of a write to an index of `count` objects: the new object's id, or the number of objects loaded
abbrev pub answer_to : Write → ℕ → ℕ
answer_to (Inserts point tag) count = count
answer_to (Loads rows labels) count = length rows

-- the tree after the write, by the rules of the head: VLDB's insertion, or this project's bulk loading
abbrev pub tree_after : Space → Head → Write → ℕ → Tall → Tall
tree_after s head (Inserts point tag) count tree = placed s head.promote head.split (record { id = count; tag = tag; point = point }) tree
tree_after s head (Loads rows labels) count tree = built s rows labels

-- ---- on a sound file

-- the disk tells its bytes, the live tree in them is sound, and its objects have `points` and `tags`, in order of id
pub record HasObjects {M : Type 0} (s : Space) (file : OpenFile M) (disk : DiskState) (points : List (List ℕ)) (tags : List ℕ) : Type 0 where
  pub is_known : IsTrue disk.is_known
  pub sound : IsSoundTree s (nodes_on file disk) file.live
  pub points_are : points_on file disk ≡ points
  pub tags_are : tags_on file disk ≡ tags

-- the file opens to `head`, is sound, and its objects have `points` and `tags`, in order of id
pub record HoldsObjects (s : Space) (head : Head) (points : List (List ℕ)) (tags : List ℕ) (file : List ℕ) : Type 0 where
  pub live : Live
  pub is : IsFileOf s head live points tags file

-- a crash at any moment of the call leaves a sound file with the objects from before the write or with those after it
abbrev pub LeavesEither : Space → Head → Write → List (List ℕ) → List ℕ → DiskState → DiskState → Type 0
LeavesEither s head write points tags before after =
    EachImage before after (λ image. HoldsObjects s head points tags image ⊎ HoldsObjects s head (points_after write points) (tags_after write tags) image)

-- free and held pages are exactly the pages outside the live tree
abbrev pub IsExactFor : {M : Type 0} → OpenFile M → FreePages → DiskState → Type 0
IsExactFor file f disk = AreOutside file.live.pages (live_pages (nodes_on file disk) file.live) f

-- the same of an index whose free list is made
abbrev pub IsExact : {M : Type 0} → OpenIndex M → DiskState → Type 0
IsExact index disk = MatchOption index.free (Unit {0}) (λ f. IsExactFor index.file f disk)

-- ---- on which pages new nodes stand

-- the free pages that a write may use, the least ones first: a load may use all of them
abbrev pub offered_to : Write → Live → FreePages → List ℕ
offered_to (Inserts point tag) t f = offered_pages t f
offered_to (Loads rows labels) t f = f.free

-- The pages of a new tree that are not in the old one are the first of `numbers` and, where `numbers` are too few, the pages from
-- the file's end on.
pub record AreLeastPages (numbers : List ℕ) (end : ℕ) (old new : List ℕ) : Type 0 where
  pub made : List ℕ
  pub numbered : made ≡ map (number_at numbers end) (range_with_len 0 (length made))
  pub are_new : (page : ℕ) → IsIn page made ↔ (IsIn page new × (IsIn page old → ⊥))

-- The new nodes of a write stand on the least free pages. These are of the list that the index has, or else of the one that a walk
-- makes.
pub record StandsOnLeast {M : Type 0} (s : Space) (write : Write) (old new : OpenIndex M) (before after : DiskState) : Type 0 where
  pub list : FreePages
  pub is : IsListOf old before list
  pub pages : (points : List (List ℕ)) (tags : List ℕ) → HasObjects s old.file before points tags →
      AreLeastPages (offered_to write old.file.live list) old.file.live.pages (live_pages (nodes_on old.file before) old.file.live)
      (live_pages (nodes_on new.file after) new.file.live)

-- ---- on any file

-- the next live slot; nothing else of the index changes but its cache and its free list
pub record IsNext {M : Type 0} (write : Write) (old new : OpenIndex M) : Type 0 where
  pub live : Live
  pub is : new ≡ record old { file = record old.file { live = live; kept = new.file.kept }; free = new.free }
  pub side : live.side ≡ 1 - old.file.live.side
  pub generation : live.generation ≡ old.file.live.generation + 1
  pub count : live.count ≡ old.file.live.count + added_by write
  pub pages : old.file.live.pages ≤ live.pages
  pub room : SameRoom old.file.kept new.file.kept

-- A refusal leaves everything as it was, but for the cache, and for the free list, which may have been made.
pub record IsRefused {M : Type 0} (old new : OpenIndex M) (before after : DiskState) : Type 0 where
  pub is : new ≡ record old { file = record old.file { kept = new.file.kept }; free = new.free }
  pub room : SameRoom old.file.kept new.file.kept
  pub free : MatchOption old.free (Unit {0}) (λ f. new.free ≡ Some f)
  pub same : IsUnchanged before after

-- the pin of a generation guards the given pages
abbrev pub GuardsPages : {M : Type 0} → ℕ → List ℕ → OpenIndex M → Type 0
GuardsPages generation tree index = MatchOption index.free ⊥ (λ f. IsGuarded index.file.live.pages generation f tree)

-- a guarded page holds in every image what it held
abbrev pub KeepsPages : List ℕ → DiskState → DiskState → Type 0
KeepsPages tree before after = EachImage before after (λ image. AllByRecursion (λ page. page_of image page ≡ page_of before.bytes page) tree)

-- What a write does, on any file. `Commit` comes where the disk failed in the commit. It stops the index, which then has no free list
-- and no pins. On a sound file a crash at any moment leaves the objects before or after. After `Ok` the file has the tree after, with
-- its new nodes on the least pages. Where free and held pages were exactly those outside the tree they are so again, whatever the
-- result. After `Ok` what a pin guards is still guarded. Whatever the result, a guarded page holds at every moment what it held.
pub record HasWritten {M : Type 0} (s : Space) (write : Write) (old new : OpenIndex M) (before after : DiskState) (result : Result ℕ IndexFault) : Type 0 where
  pub answer : IfOk result (λ n. n ≡ answer_to write old.file.live.count)
  pub next : OnOk result (IsNext write old new)
  pub refused : IfErr result (λ fault. fault ≢ Commit → IsRefused old new before after)
  pub stops : IfErr result (λ fault. fault ≡ Commit → (new.stopped ≡ true) × Rose before.faults after.faults)
  pub forgets : IfErr result (λ fault. fault ≡ Commit → new.free ≡ None)
  pub moments : (points : List (List ℕ)) (tags : List ℕ) → HasObjects s old.file before points tags →
      LeavesEither s old.file.head write points tags before after
  pub objects : (points : List (List ℕ)) (tags : List ℕ) → HasObjects s old.file before points tags →
      OnOk result (HasObjects s new.file after (points_after write points) (tags_after write tags))
  pub tree : (points : List (List ℕ)) (tags : List ℕ) → HasObjects s old.file before points tags →
      OnOk result (tree_of (nodes_on new.file after) new.file.live ≡ tree_after s old.file.head write old.file.live.count
      (tree_of (nodes_on old.file before) old.file.live))
  pub least : OnOk result (StandsOnLeast s write old new before after)
  pub exact : (points : List (List ℕ)) (tags : List ℕ) → HasObjects s old.file before points tags → IsExact old before → IsExact new after
  pub guarded : (generation : ℕ) (tree : List ℕ) → GuardsPages generation tree old → OnOk result (GuardsPages generation tree new)
  pub kept : (generation : ℕ) (tree : List ℕ) → IsTrue before.is_known → GuardsPages generation tree old → KeepsPages tree before after

-- ---- one commit

-- Nodes were placed for the file: on the first `used` of its free pages, and from its end on.
pub record IsPlacedOn {M : Type 0} (file : OpenFile M) (f : FreePages) (used : ℕ) (placed : Placed) : Type 0 where
  pub added : ℕ
  pub asked : ℕ
  pub placement : IsPlacement file.head file.live (take asked f.free) added placed
  pub used_is : used ≡ min (length placed.staged) (length (take asked f.free))
  pub left_within : AllByRecursion (IsWithin file.live.pages) placed.left

-- the new nodes stand on the pages that are offered to `write`, and then on those from the file's end on
abbrev pub IsNumberedFor : {M : Type 0} → Write → OpenFile M → FreePages → Placed → Type 0
IsNumberedFor write file f placed =
    pages_of placed.staged ≡ map (number_at (offered_to write file.live f) file.live.pages) (range_with_len 0 (length placed.staged))

-- the new nodes take the place of the left ones, or are a tree by themselves in place of the root
abbrev pub Follows : Nodes → Live → Placed → Type 0
Follows nodes t placed = TakesPlace nodes t placed ⊎ (StandsByItself placed × (placed.left ≡ t.root ∷ []))

-- the cache after pages are forgotten
abbrev pub forgotten : List ℕ → Pairs → Pairs
forgotten [] kept = kept
forgotten (page ∷ pages) kept = forgotten pages (without kept page)

abbrev pub forgotten_of : List ℕ → Option Pairs → Option Pairs
forgotten_of pages None = None
forgotten_of pages (Some kept) = Some (forgotten pages kept)

-- nodes over the old ones have the tree after the write, and its pages and the left ones are the old tree's and the staged ones
pub record IsMadeBy (s : Space) (head : Head) (write : Write) (old : Nodes) (t : Live) (placed : Placed) (new : Nodes) : Type 0 where
  pub objects : IsTreeOf s new placed.next (points_after write (points_by_id old t)) (tags_after write (tags_by_id old t))
  pub tree : tree_of new placed.next ≡ tree_after s head write t.count (tree_of old t)
  pub balance : (page : ℕ) → times page (live_pages new placed.next) + times page placed.left ≡ times page
      (live_pages old t) + times page (pages_of placed.staged)

-- what was placed is the write, on a sound file: none of its pages lies in the live tree, and it makes the tree after the write
pub record IsPlacedFor (s : Space) (head : Head) (write : Write) (old : Nodes) (t : Live) (placed : Placed) : Type 0 where
  pub apart : AreBeside old t (pages_of placed.staged)
  pub makes : (new : Nodes) → IsOver old t placed.staged new → IsMadeBy s head write old t placed new

-- the file after the commit of what was placed, and its free list
pub record IsCommitted {M : Type 0} (old new : OpenFile M) (f g : FreePages) (used : ℕ) (placed : Placed) (before after : DiskState) : Type 0 where
  pub file : new ≡ record old { live = placed.next; kept = new.kept }
  pub room : SameRoom old.kept new.kept
  pub spare : ℕ
  pub free : g ≡ after_commit used placed.left placed.next.generation (record f { spare = spare })
  pub within : AreWithin placed.next.pages g
  pub stands : StandsOn new after
  pub only : IsTrue after.is_known → LeavesOnly after after.bytes
  pub beside : IsTrue after.is_known → AreSpare (nodes_on new after) placed.next g
  pub next : IsTrue before.is_known → HasNext old.head.dim placed.next placed.staged after.bytes
