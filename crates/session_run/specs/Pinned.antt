-- The open cursors of a session: each goes through the tree of its opening, which a pin keeps.
use Rattle.std.specs.Prelude.{◌≡◌, ℕ, ◌+◌, ◌^◌, ◌≤◌, ◌==◌, Bool, Option, None, Some, IsTrue, IsSome, List, [], ◌∷◌, if◌then◌else◌}
use Rattle.std.specs.List.{AllByRecursion, AllZip, list_any}
use Rattle.metric_laws.specs.Lists.{IsIn}
use Rattle.metric_laws.specs.Space.{Space}
use Rattle.disk_model.specs.Disk.{DiskState}
use Rattle.node_page.specs.Opening.{page_of}
use Rattle.tree_shape.specs.declared.live.Live.{Live}
use Rattle.tree_shape.specs.Tree.{Nodes, IsSoundTree, times}
use Rattle.page_store.specs.Placing.{live_pages}
use Rattle.page_store.specs.Reached.{StandsOnPages}
use Rattle.page_store.specs.Reading.{nodes_of, reading}
use Rattle.rows_text.specs.Meaning.{Cursor}
use Rattle.plain_scan.specs.OpenCursors.{OpenCursors}
use Rattle.pin_cursor.specs.Cursor.{IsCursorOn, IsWalked, rest_of, tags_of}
use Rattle.free_pages.specs.Keeping.{FreePages}
use Rattle.index_core.specs.Answers.{IsSoundOn}
use Rattle.index_core.specs.Index.{OpenIndex}
use Rattle.index_core.specs.Pinning.{IsPinned}
use Rattle.index_core.specs.Writing.{GuardsPages}
use Rattle.session_run.specs.declared.pinned.PinnedCursor.{PinnedCursor}
use Rattle.session_run.specs.declared.pinned.PinnedCursors.{PinnedCursors}

-- ---- on any file

-- the numbers of cursors ascend, from `low` on and below `next`
abbrev pub AreNumbered : ℕ → ℕ → List PinnedCursor → Type 0
AreNumbered low next [] = low ≤ next
AreNumbered low next (c ∷ cursors) = (low ≤ c.number) × AreNumbered (c.number + 1) next cursors

-- A cursor that can be stepped: the generation of its tree is pinned, its point is one of the space, and its tree may be a file's.
pub record IsKeptBy {M : Type 0} (s : Space) (index : OpenIndex M) (c : PinnedCursor) : Type 0 where
  pub pinned : IsPinned c.cursor.live.generation index
  pub point : IsTrue (s.is_point c.cursor.point)
  pub few : c.cursor.live.pages ≤ 2 ^ 24

-- all cursors can be stepped, and each has a number of its own
pub record AreKeptBy {M : Type 0} (s : Space) (index : OpenIndex M) (pinned : PinnedCursors) : Type 0 where
  pub each : AllByRecursion (IsKeptBy s index) pinned.cursors.items
  pub numbers : AreNumbered 0 pinned.next pinned.cursors.items

-- the pages of `tree` hold what they held
abbrev pub HoldSame : List ℕ → List ℕ → List ℕ → Type 0
HoldSame tree before after = AllByRecursion (λ page. page_of after page ≡ page_of before page) tree

-- Pages that a pin guards are still guarded, and hold what they held.
pub record KeepsGuarded {M : Type 0} (old new : OpenIndex M) (before after : DiskState) : Type 0 where
  pub guarded : (generation : ℕ) (tree : List ℕ) → GuardsPages generation tree old → GuardsPages generation tree new
  pub kept : IsTrue before.is_known → (generation : ℕ) (tree : List ℕ) → GuardsPages generation tree old → HoldSame tree before.bytes after.bytes

-- the nodes of the pages that hold a cursor's tree
abbrev pub nodes_for : {M : Type 0} → OpenIndex M → List ℕ → PinnedCursor → Nodes
nodes_for index bytes c = nodes_of (reading index.file.head.dim c.cursor.live.pages bytes)

-- A cursor goes through a tree that the file still holds, sound or not: the tree stands on pages that hold nodes and are guarded, and
-- the cursor is a walk of the tree.
pub record GoesThrough {M : Type 0} (index : OpenIndex M) (bytes : List ℕ) (c : PinnedCursor) : Type 0 where
  pub tree : List ℕ
  pub stands : StandsOnPages (nodes_for index bytes c) c.cursor.live tree
  pub have : AllByRecursion (λ page. IsSome (nodes_for index bytes c page)) tree
  pub guarded : GuardsPages c.cursor.live.generation tree index
  pub walked : IsWalked (nodes_for index bytes c) c.cursor

-- all cursors go through their trees, where the disk tells its bytes
abbrev pub AllGoThrough : {M : Type 0} → OpenIndex M → DiskState → PinnedCursors → Type 0
AllGoThrough index disk pinned = IsTrue disk.is_known → AllByRecursion (GoesThrough index disk.bytes) pinned.cursors.items

-- ---- pins

-- how often the generation is pinned
abbrev pub pins_among : ℕ → Option FreePages → ℕ
pins_among generation None = 0
pins_among generation (Some f) = times generation f.pins

-- one of the cursors goes through the tree of the generation
abbrev pub is_walked : ℕ → List PinnedCursor → Bool
is_walked generation cursors = list_any (λ c. c.cursor.live.generation == generation) cursors

-- how many pins of the generation the cursors have: one for all cursors that go through its tree
abbrev pub pins_for : ℕ → List PinnedCursor → ℕ
pins_for generation cursors = if is_walked generation cursors then 1 else 0

-- Pins come and go only with the cursors.
abbrev pub PinsFollow : {M : Type 0} → OpenIndex M → OpenIndex M → List PinnedCursor → List PinnedCursor → Type 0
PinsFollow old new before after =
    (generation : ℕ) →
    pins_among generation new.free + pins_for generation before ≡ pins_among generation old.free + pins_for generation after

-- ---- on a sound file

-- the pages of a file hold the tree
abbrev pub HoldsTree : ℕ → Nodes → Live → List ℕ → Type 0
HoldsTree dim nodes live bytes = (page : ℕ) → IsIn page (live_pages nodes live) → nodes_of (reading dim live.pages bytes) page ≡ nodes page

-- A cursor stands for `meant`, with the hits that are still to be given: its tree is sound, the file still holds it on pages that are
-- guarded, and the cursor stands on it.
pub record StandsFor {M : Type 0} (s : Space) (index : OpenIndex M) (bytes : List ℕ) (c : PinnedCursor) (meant : Cursor) : Type 0 where
  pub nodes : Nodes
  pub number : meant.number ≡ c.number
  pub sound : IsSoundTree s nodes c.cursor.live
  pub held : HoldsTree index.file.head.dim nodes c.cursor.live bytes
  pub guarded : GuardsPages c.cursor.live.generation (live_pages nodes c.cursor.live) index
  pub stands : IsCursorOn s nodes c.cursor
  pub hits : meant.hits ≡ rest_of s nodes c.cursor
  pub tags : meant.tags ≡ tags_of nodes c.cursor.live meant.hits

-- the open cursors stand for `opened`, one for one
pub record StandFor {M : Type 0} (s : Space) (index : OpenIndex M) (bytes : List ℕ) (pinned : PinnedCursors) (opened : OpenCursors) : Type 0 where
  pub each : AllZip (StandsFor s index bytes) pinned.cursors.items opened.cursors
  pub next : opened.next ≡ pinned.next

-- the file is sound, and the open cursors stand for `opened`
pub record GoesOn {M : Type 0} (s : Space) (index : OpenIndex M) (disk : DiskState) (pinned : PinnedCursors) (opened : OpenCursors) : Type 0 where
  pub sound : IsSoundOn s index.file disk
  pub cursors : StandFor s index disk.bytes pinned opened

-- the same for some `opened`
abbrev pub CanGoOn : {M : Type 0} → Space → OpenIndex M → DiskState → PinnedCursors → Type 0
CanGoOn s index disk pinned = (opened : OpenCursors) × GoesOn s index disk pinned opened
