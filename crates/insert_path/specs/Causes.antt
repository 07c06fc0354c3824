-- Why a walk of an insertion stops, and what it asks of the pages.
use Rattle.std.specs.Prelude.{◌≡◌, ℕ, ◌+◌, ◌-◌, ◌^◌, ◌<◌, ◌≤◌, false, List, length, IsTrue, Option, Some, None}
use Rattle.metric_laws.specs.Space.{Space}
use Rattle.tree_shape.specs.declared.live.Live.{Live}
use Rattle.tree_shape.specs.Plain.{Object, tree_of}
use Rattle.tree_growth.specs.Insertion.{Rules}
use Rattle.insert_path.specs.declared.faults.PlaceFault.{PlaceFault}
use Rattle.insert_path.specs.declared.faults.PlaceFault.TheVariants.{Page, Full, NoRoom, Worn, Memory as NoMemory}
use Rattle.insert_path.specs.Placing.{place_fault, fresh_of}
use Rattle.outside_io.specs.Causes.{Rose}
use Rattle.page_store.specs.declared.pages.PageFault.{PageFault}
use Rattle.page_store.specs.declared.pages.PageFault.TheVariants.{Disk, Bad, Outside, Memory, Repeats, Level}
use Rattle.page_store.specs.Reading.{is_within, nodes_of}
use Rattle.page_store.specs.Shelf.{Shelf, HoldsSame}

-- at most `most` pages were asked for, and the pages hold what they held
pub record HasAsked (most : ℕ) (old new : Shelf) : Type 0 where
  pub same : HoldsSame old new
  pub asked : new.asked ≤ old.asked + most
  pub reads : new.reads ≤ old.reads + most

-- why a walk stops, where `first` is the first fault on its pages: the disk failed, memory ran out, or the fault is `first`
abbrev pub HasWalkCause : Shelf → Shelf → Option PageFault → PageFault → Type 0
HasWalkCause old new first Disk = Rose old.faults new.faults
HasWalkCause old new first (Bad page fault) = IsTrue old.is_known → first ≡ Some (Bad page fault)
HasWalkCause old new first (Outside page) = (is_within old.pages page ≡ false) × (IsTrue old.is_known → first ≡ Some (Outside page))
HasWalkCause old new first Memory = Unit {0}
HasWalkCause old new first (Repeats page) = ⊥
HasWalkCause old new first (Level page) = IsTrue old.is_known → first ≡ Some (Level page)

-- the fault of an insertion whose walk stopped: running out of memory is the insertion's own fault
abbrev pub fault_of : PageFault → PlaceFault
fault_of Memory = NoMemory
fault_of fault = Page fault

-- why an insertion into a file stops; that the index is full or worn is stated elsewhere
abbrev pub HasPlaceCause : Space → Rules → List ℕ → Live → Object → Shelf → Shelf → PlaceFault → Type 0
HasPlaceCause s R numbers t o old new (Page Memory) = ⊥
HasPlaceCause s R numbers t o old new (Page fault) = HasWalkCause old new (place_fault s R old.read t o) fault
HasPlaceCause s R numbers t o old new Full = Unit {0}
HasPlaceCause s R numbers t o old new Worn = Unit {0}
HasPlaceCause s R numbers t o old new NoMemory = Unit {0}
HasPlaceCause s R numbers t o old new (NoRoom pages needed) =
    (pages ≡ t.pages) × (2 ^ 24 < pages + needed)
    × (IsTrue old.is_known → (place_fault s R old.read t o ≡ None) × (needed ≡ length (fresh_of R o (tree_of (nodes_of old.read) t)) - length numbers))

-- like `HasPlaceCause`, before the room is known
abbrev pub HasTreeCause : Shelf → Shelf → Option PageFault → PlaceFault → Type 0
HasTreeCause old new first (Page Memory) = ⊥
HasTreeCause old new first (Page fault) = HasWalkCause old new first fault
HasTreeCause old new first Full = ⊥
HasTreeCause old new first Worn = ⊥
HasTreeCause old new first NoMemory = Unit {0}
HasTreeCause old new first (NoRoom pages needed) = ⊥

-- no page of the file is at fault
abbrev pub IsUndamaged : PlaceFault → Type 0
IsUndamaged (Page Disk) = Unit {0}
IsUndamaged (Page Memory) = ⊥
IsUndamaged (Page (Bad page fault)) = ⊥
IsUndamaged (Page (Outside page)) = ⊥
IsUndamaged (Page (Repeats page)) = ⊥
IsUndamaged (Page (Level page)) = ⊥
IsUndamaged Full = Unit {0}
IsUndamaged (NoRoom pages needed) = Unit {0}
IsUndamaged Worn = Unit {0}
IsUndamaged NoMemory = Unit {0}
