-- Which bytes of a file open, to which head and which live slot, and the first fault of those that do not.
use Rattle.std.specs.Prelude.{ℕ, ◌+◌, ◌-◌, ◌*◌, ◌^◌, ◌<◌, ◌≤◌, ◌==◌, ◌&&◌, ◌||◌, not, nat_lt, nat_le, Bool, true, List, length, map, slice_index, IsTrue, Option, Some, None, if◌then◌else◌}
use Rattle.std.specs.List.{range_with_len}
use Rattle.tree_shape.specs.declared.live.Live.{Live}
use Rattle.node_page.specs.Bytes.{number_at, are_zero}
use Rattle.node_page.specs.Heads.{SpellsHead, head_of, head_fault}
use Rattle.node_page.specs.Slots.{SpellsSlot, slot_of}
use Rattle.node_page.specs.declared.head.Head.{Head}
use Rattle.node_page.specs.declared.head.HeadFault.{HeadFault}
use Rattle.node_page.specs.declared.slot.Slot.{Slot}

-- the page of this number: 4096 bytes, which are 0 past the end of the file
unfoldable pub page_of : List ℕ → ℕ → List ℕ
page_of file page = map (λ k. slice_index file (4096 * page + k)) (range_with_len 0 4096)

-- the page of a side's slot
abbrev pub slot_page : List ℕ → ℕ → List ℕ
slot_page file side = page_of file (1 + side)

-- whether the gate of a side's slot is open
unfoldable pub is_open : List ℕ → ℕ → Bool
is_open file side = slice_index (slot_page file side) 0 == 165

-- the generation of a side's slot
unfoldable pub generation_of : List ℕ → ℕ → ℕ
generation_of file side = number_at 8 8 (slot_page file side)

-- the slot of a live tree
abbrev pub slot_of_live : Live → Slot
slot_of_live live = record { gate = true; generation = live.generation; root = live.root; height = live.height; count = live.count; pages = live.pages }

-- the live slot keeps the bounds of a file of this size whose head has this limit
pub record IsValidLive (limit size : ℕ) (live : Live) : Type 0 where
  pub low_generation : 1 ≤ live.generation
  pub high_generation : live.generation ≤ 2 ^ 48 - 1
  pub low_root : 3 ≤ live.root
  pub high_root : live.root < live.pages
  pub height : live.height ≤ 14
  pub count : live.count ≤ limit
  pub low_pages : 4 ≤ live.pages
  pub high_pages : live.pages ≤ 2 ^ 24
  pub room : live.pages * 4096 ≤ size

-- the bytes open to this head and this live slot: its gate is open, and the other gate is closed or of a lesser generation
pub record OpensTo (file : List ℕ) (head : Head) (live : Live) : Type 0 where
  pub long : 12288 ≤ length file
  pub spells_head : SpellsHead (page_of file 0) head
  pub side : live.side ≤ 1
  pub newest : IsTrue (is_open file (1 - live.side)) → generation_of file (1 - live.side) < live.generation
  pub spells_slot : SpellsSlot (slot_page file live.side) (slot_of_live live)
  pub valid : IsValidLive head.limit (length file) live

-- the side of the open gate, of the greater generation where both are open
unfoldable pub live_side : List ℕ → ℕ
live_side file = if is_open file 0 && (not (is_open file 1) || nat_lt (generation_of file 1) (generation_of file 0)) then 0 else 1

-- a live slot of these fields on this side
abbrev pub live_at : ℕ → Slot → Live
live_at side slot = record { side = side; generation = slot.generation; root = slot.root; height = slot.height; count = slot.count; pages = slot.pages }

-- the live slot of the bytes
unfoldable pub live_of : List ℕ → Live
live_of file = live_at (live_side file) (slot_of (slot_page file (live_side file)))

-- whether the bytes that no field of a slot takes are 0
unfoldable pub is_clear : List ℕ → Bool
is_clear page = are_zero 1 7 page && are_zero 32 4064 page

-- whether a live slot keeps its bounds
unfoldable pub is_valid_live : ℕ → ℕ → Live → Bool
is_valid_live limit size live =
    nat_le 1 live.generation && nat_le live.generation (2 ^ 48 - 1) && nat_le 3 live.root && nat_lt live.root live.pages && nat_le live.height 14
    && nat_le live.count limit && nat_le 4 live.pages && nat_le live.pages (2 ^ 24) && nat_le (live.pages * 4096) size

-- why bytes do not open
pub data Unopened : Type 0 where
  -- less than the head and the two slots
  Short : Unopened
  -- the first page is no head
  NoHead : HeadFault → Unopened
  -- neither gate is open
  Unfinished : Unopened
  -- both gates are open with one generation
  TwoRoots : Unopened
  -- the live slot has more in it than its fields, or does not keep its bounds
  BadSlot : Unopened

-- the first fault of the slots
unfoldable pub slot_fault : List ℕ → Option Unopened
slot_fault file =
    if not (is_open file 0) && not (is_open file 1) then Some Unfinished
    else if is_open file 0 && is_open file 1 && (generation_of file 0 == generation_of file 1) then Some TwoRoots
    else if not (is_clear (slot_page file (live_side file)) && is_valid_live (head_of (page_of file 0)).limit (length file) (live_of file)) then Some BadSlot
    else None

-- a fault of the head, or else one of the slots
abbrev pub after_head : Option HeadFault → Option Unopened → Option Unopened
after_head (Some fault) next = Some (NoHead fault)
after_head None next = next

-- the first fault of the bytes
unfoldable pub open_fault : List ℕ → Option Unopened
open_fault file = if nat_lt (length file) 12288 then Some Short else after_head (head_fault (page_of file 0)) (slot_fault file)
