-- Why a call of an opened index refuses.
use Rattle.std.specs.Prelude.{◌≡◌, ◌≢◌, ◌⊎◌, ℕ, ◌+◌, ◌*◌, IsTrue, List, [], take, true, Ok, Err, None, Some, MatchOption}
use Rattle.disk_model.specs.Disk.{DiskState}
use Rattle.tree_shape.specs.declared.live.Live.{Live}
use Rattle.node_page.specs.declared.head.Head.{Head}
use Rattle.node_page.specs.declared.head.HeadFault.TheVariants.{Version, Space}
use Rattle.node_page.specs.Opening.{OpensTo}
use Rattle.page_store.specs.declared.pages.PageFault.{PageFault}
use Rattle.page_store.specs.Reading.{Read}
use Rattle.page_store.specs.Shelf.{IsDamage}
use Rattle.page_store.specs.declared.pages.PageFault.TheVariants as page
use Rattle.shadow_root.specs.Opening.{HasOpenCause}
use Rattle.shadow_root.specs.declared.faults.OpenFault.{OpenFault}
use Rattle.shadow_root.specs.declared.faults.OpenFault.TheVariants.{Head as NoHead}
use Rattle.outside_io.specs.Causes.{Rose}
use Rattle.tree_shape.specs.Plain.{Object}
use Rattle.tree_growth.specs.Insertion.{Rules, rules}
use Rattle.metric_laws.specs.Space.{Space as Metrized}
use Rattle.insert_path.specs.declared.faults.PlaceFault.{PlaceFault}
use Rattle.insert_path.specs.declared.faults.PlaceFault.TheVariants as place
use Rattle.insert_path.specs.Causes.{HasPlaceCause}
use Rattle.insert_path.specs.Placing.{place_fault as faults_of_path}
use Rattle.free_pages.specs.Keeping.{FreePages}
use Rattle.free_pages.specs.Walk.{outside_pages, tree_walk}
use Rattle.index_core.specs.Files.{OpenFile, pages_on}
use Rattle.index_core.specs.Index.{OpenIndex}
use Rattle.index_core.specs.declared.faults.IndexFault.{IndexFault}
use Rattle.index_core.specs.declared.faults.IndexFault.TheVariants.{Disk, Damaged, Full, NotEmpty, NoRoom, Worn, Stopped, Memory, Commit}

-- `bytes` open to a head that satisfies a predicate
abbrev pub OpensAs : List ℕ → (Head → Type 0) → Type 0
OpensAs bytes P = (head : Head) × (live : Live) × OpensTo bytes head live × P head

-- Why an index was not opened with a metric of `dimension` coordinates: the disk failed, or the fault is the first fault of the bytes; or
-- the bytes open to a head of version 1, or to a head whose points have another number of coordinates.
abbrev pub HasReaderCause : ℕ → DiskState → DiskState → OpenFault → Type 0
HasReaderCause dimension old new fault =
    HasOpenCause old new fault
    ⊎ (((fault ≡ NoHead Version) × (IsTrue old.is_known → OpensAs old.bytes (λ head. head.version ≡ 1)))
    ⊎ ((fault ≡ NoHead Space) × (IsTrue old.is_known → OpensAs old.bytes (λ head. (head.version ≡ 2) × (head.dim ≢ dimension)))))

-- maps a walk's fault to the index's
abbrev pub read_fault : PageFault → IndexFault
read_fault page.Disk = Disk
read_fault page.Memory = Memory
read_fault fault = Damaged fault

-- why a reading call refuses, given why its walk does
abbrev pub HasReadCause : (PageFault → Type 0) → IndexFault → Type 0
HasReadCause walk Disk = walk page.Disk
HasReadCause walk (Damaged fault) = IsDamage fault × walk fault
HasReadCause walk Memory = Unit {0}
HasReadCause walk _ = ⊥

-- faults that any call may meet: the disk failed, or memory ran out
abbrev pub MayComeAnytime : IndexFault → Type 0
MayComeAnytime Disk = Unit {0}
MayComeAnytime Memory = Unit {0}
MayComeAnytime _ = ⊥

-- maps an insertion's fault to the index's
abbrev pub place_fault : PlaceFault → IndexFault
place_fault (place.Page fault) = read_fault fault
place_fault place.Full = Full
place_fault (place.NoRoom pages needed) = NoRoom pages needed
place_fault place.Worn = Worn
place_fault place.Memory = Memory

-- an insertion found the file damaged: a page holds no node, lies outside the file, or has another level than its depth asks for
abbrev pub IsPathDamage : PageFault → Type 0
IsPathDamage (page.Bad p fault) = Unit {0}
IsPathDamage (page.Outside p) = Unit {0}
IsPathDamage (page.Level p) = Unit {0}
IsPathDamage _ = ⊥

-- the rules of insertion of a file
abbrev pub rules_of : {M : Type 0} → Metrized → OpenFile M → Rules
rules_of s file = rules s file.head.promote file.head.split

-- the free pages that an insertion may use, the least ones first: it needs at most `2 * height + 3` for a split of each node from
-- the leaf up and a new root
abbrev pub offered_pages : Live → FreePages → List ℕ
offered_pages t f = take (2 * t.height + 3) f.free

-- Why an object was not placed: the disk failed, memory ran out, or its walk met a fault, which is the first one; or the new nodes
-- that get no free page need more pages than a file may have.
abbrev pub HasPathCause : {M : Type 0} → Metrized → OpenFile M → FreePages → Object → DiskState → DiskState → IndexFault → Type 0
HasPathCause s file f o old new Disk = Rose old.faults new.faults
HasPathCause s file f o old new (Damaged fault) =
    IsPathDamage fault × (IsTrue old.is_known → faults_of_path s (rules_of s file) (pages_on file old 0).read file.live o ≡ Some fault)
HasPathCause s file f o old new (NoRoom pages needed) =
    HasPlaceCause s (rules_of s file) (offered_pages file.live f) file.live o (pages_on file old 0) (pages_on file new 0) (place.NoRoom pages needed)
HasPathCause s file f o old new Memory = Unit {0}
HasPathCause s file f o old new _ = ⊥

-- no page of the file is at fault
abbrev pub BlamesNoPage : IndexFault → Type 0
BlamesNoPage (Damaged fault) = ⊥
BlamesNoPage _ = Unit {0}

-- why no free list was made: the disk failed and its fault count rose to `faults`, memory ran out, or the fault is the first one of
-- the walk of the live tree by child numbers
abbrev pub HasListCause : {M : Type 0} → OpenFile M → DiskState → ℕ → IndexFault → Type 0
HasListCause file old faults Disk = Rose old.faults faults
HasListCause file old faults (Damaged fault) = IsDamage fault × (IsTrue old.is_known → tree_walk (pages_on file old 0).read file.live ≡ Err fault)
HasListCause file old faults Memory = Unit {0}
HasListCause file old faults _ = ⊥

-- the walk of a tree by child numbers completes, and `free` lists the pages from 3 up that it does not reach
abbrev pub LieOutside : Read → Live → List ℕ → Type 0
LieOutside read t free = (tree : List ℕ) × (tree_walk read t ≡ Ok tree) × (free ≡ outside_pages t.pages tree)

-- the free list that a walk makes: no page is held or pinned
pub record IsMadeList {M : Type 0} (file : OpenFile M) (disk : DiskState) (f : FreePages) : Type 0 where
  pub free : IsTrue disk.is_known → LieOutside (pages_on file disk 0).read file.live f.free
  pub held : f.held ≡ []
  pub pins : f.pins ≡ []

-- the free list is the one that the index has, or else the one that a walk makes
abbrev pub IsListOf : {M : Type 0} → OpenIndex M → DiskState → FreePages → Type 0
IsListOf index disk f = MatchOption index.free (IsMadeList index.file disk f) (λ g. f ≡ g)

-- Why an object was not inserted: a commit failed before; the disk failed; the walk that makes the free list met a damaged page, or
-- else, once there is a list, the walk of the insertion did; the new nodes have no room; memory ran out; or the disk failed in the
-- commit. The causes Full and Worn are stated elsewhere.
abbrev pub HasInsertCause : {M : Type 0} → Metrized → OpenIndex M → Object → DiskState → DiskState → IndexFault → Type 0
HasInsertCause s index o old new Stopped = index.stopped ≡ true
HasInsertCause s index o old new Full = Unit {0}
HasInsertCause s index o old new Worn = Unit {0}
HasInsertCause s index o old new Disk = Rose old.faults new.faults
HasInsertCause s index o old new (Damaged fault) =
    ((index.free ≡ None) × HasListCause index.file old new.faults (Damaged fault))
    ⊎ (IsPathDamage fault × ((f : FreePages) × IsListOf index old f) × (IsTrue old.is_known →
    faults_of_path s (rules_of s index.file) (pages_on index.file old 0).read index.file.live o ≡ Some fault))
HasInsertCause s index o old new (NoRoom pages needed) =
    (f : FreePages) × IsListOf index old f
    × HasPlaceCause s (rules_of s index.file) (offered_pages index.file.live f) index.file.live o (pages_on index.file old 0)
    (pages_on index.file new 0) (place.NoRoom pages needed)
HasInsertCause s index o old new Memory = Unit {0}
HasInsertCause s index o old new Commit = Rose old.faults new.faults
HasInsertCause s index o old new NotEmpty = ⊥
