-- Why a file does not open, and how its two slots lead to the live one.
use Rattle.std.specs.Prelude.{◌≡◌, ◌⊎◌, ℕ, ◌-◌, ◌<◌, ◌≤◌, ◌==◌, ◌&&◌, ◌||◌, not, nat_lt, Bool, List, length, slice_index, IsTrue, Option, Some, None, Result, Ok, Err, if◌then◌else◌}
use Rattle.outside_io.specs.Causes.{Rose}
use Rattle.disk_model.specs.Disk.{DiskState}
use Rattle.tree_shape.specs.declared.live.Live.{Live}
use Rattle.node_page.specs.Bytes.{number_at}
use Rattle.node_page.specs.Heads.{head_of, head_fault}
use Rattle.node_page.specs.Slots.{SpellsSlot}
use Rattle.node_page.specs.Opening.{page_of, slot_page, is_open, generation_of, slot_of_live, IsValidLive, Unopened, open_fault, slot_fault}
use Rattle.node_page.specs.Opening.Unopened.{Short as TooShort, NoHead, Unfinished as NoGate, TwoRoots as TwoGates, BadSlot}
use Rattle.shadow_root.specs.declared.opening.Side.{Side}
use Rattle.shadow_root.specs.declared.opening.Side.TheVariants.{First, Second}
use Rattle.shadow_root.specs.declared.faults.OpenFault.{OpenFault}
use Rattle.shadow_root.specs.declared.faults.OpenFault.TheVariants.{Disk, Short, Head, Unfinished, TwoRoots, Slot}

-- what a refusal says of the bytes
abbrev pub told_as : OpenFault → Option Unopened
told_as Disk = None
told_as Short = Some TooShort
told_as (Head fault) = Some (NoHead fault)
told_as Unfinished = Some NoGate
told_as TwoRoots = Some TwoGates
told_as Slot = Some BadSlot

-- a refusal is the disk's failure, or the first fault of the bytes
abbrev pub HasOpenCause : DiskState → DiskState → OpenFault → Type 0
HasOpenCause old new Disk = Rose old.faults new.faults
HasOpenCause old new Short = IsTrue old.is_known → open_fault old.bytes ≡ Some TooShort
HasOpenCause old new (Head fault) = IsTrue old.is_known → open_fault old.bytes ≡ Some (NoHead fault)
HasOpenCause old new Unfinished = IsTrue old.is_known → open_fault old.bytes ≡ Some NoGate
HasOpenCause old new TwoRoots = IsTrue old.is_known → open_fault old.bytes ≡ Some TwoGates
HasOpenCause old new Slot = IsTrue old.is_known → open_fault old.bytes ≡ Some BadSlot

-- the side of the live slot, by what is open and the generations
abbrev pub side_of : Bool → Bool → ℕ → ℕ → Result Side OpenFault
side_of o0 o1 g0 g1 =
    if not o0 && not o1 then Err Unfinished
    else (if o0 && o1 && (g0 == g1) then Err TwoRoots else Ok (if o0 && (not o1 || nat_lt g1 g0) then First else Second))

-- the number of a side
abbrev pub number_of : Side → ℕ
number_of First = 0
number_of Second = 1

-- The slot on `page` is live in a file of `size` bytes whose head has the limit `limit`, where the other slot is on `other`: its gate
-- is open, and the other's is closed or of a lesser generation.
pub record IsLiveIn (side : ℕ) (page other : List ℕ) (limit size : ℕ) (live : Live) : Type 0 where
  pub side_is : live.side ≡ side
  pub newest : IsTrue (slice_index other 0 == 165) → number_at 8 8 other < live.generation
  pub spells : SpellsSlot page (slot_of_live live)
  pub valid : IsValidLive limit size live

-- the live slot is one of the two
abbrev pub IsLiveSlot : List ℕ → List ℕ → ℕ → ℕ → Live → Type 0
IsLiveSlot first second limit size live = IsLiveIn 0 first second limit size live ⊎ IsLiveIn 1 second first limit size live

-- the file has the slots `first` and `second`, a head with the limit `limit`, and `size` bytes
pub record HasSlots (first second : List ℕ) (limit size : ℕ) (file : List ℕ) : Type 0 where
  pub first_is : page_of file 1 ≡ first
  pub second_is : page_of file 2 ≡ second
  pub limit_is : (head_of (page_of file 0)).limit ≡ limit
  pub size_is : length file ≡ size

-- the slots of the file lead to the live slot `live`
pub record LeadsTo (limit size : ℕ) (live : Live) (file : List ℕ) : Type 0 where
  pub side : live.side ≤ 1
  pub newest : IsTrue (is_open file (1 - live.side)) → generation_of file (1 - live.side) < live.generation
  pub spells_slot : SpellsSlot (slot_page file live.side) (slot_of_live live)
  pub valid : IsValidLive limit size live

-- the three refusals that the slots can have
abbrev pub IsSlotFault : OpenFault → Type 0
IsSlotFault Unfinished = Unit {0}
IsSlotFault TwoRoots = Unit {0}
IsSlotFault Slot = Unit {0}
IsSlotFault Disk = ⊥
IsSlotFault Short = ⊥
IsSlotFault (Head fault) = ⊥

-- the file has `size` bytes, and its head the limit `limit`
pub record IsOf (limit size : ℕ) (file : List ℕ) : Type 0 where
  pub limit_is : (head_of (page_of file 0)).limit ≡ limit
  pub size_is : length file ≡ size

-- why no live tree was read from the slots
abbrev pub HasSlotCause : ℕ → ℕ → DiskState → DiskState → OpenFault → Type 0
HasSlotCause limit size old new Disk = Rose old.faults new.faults
HasSlotCause limit size old new Short = ⊥
HasSlotCause limit size old new (Head fault) = ⊥
HasSlotCause limit size old new Unfinished = IsTrue old.is_known → IsOf limit size old.bytes → slot_fault old.bytes ≡ Some NoGate
HasSlotCause limit size old new TwoRoots = IsTrue old.is_known → IsOf limit size old.bytes → slot_fault old.bytes ≡ Some TwoGates
HasSlotCause limit size old new Slot = IsTrue old.is_known → IsOf limit size old.bytes → slot_fault old.bytes ≡ Some BadSlot

-- why no head was read
abbrev pub HasHeadCause : DiskState → DiskState → OpenFault → Type 0
HasHeadCause old new Disk = Rose old.faults new.faults
HasHeadCause old new (Head fault) = IsTrue old.is_known → head_fault (page_of old.bytes 0) ≡ Some fault
HasHeadCause old new Short = ⊥
HasHeadCause old new Unfinished = ⊥
HasHeadCause old new TwoRoots = ⊥
HasHeadCause old new Slot = ⊥
