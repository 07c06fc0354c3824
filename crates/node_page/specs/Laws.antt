-- Laws of the spellings of heads, slots and nodes, and of the files that open.
use Rattle.std.specs.Prelude.{◌≡◌, ◌↔◌, ℕ, ◌<◌, List, length, slice_index, IsTrue, None}
use Rattle.tree_shape.specs.declared.live.Live.{Live}
use Rattle.node_page.specs.Heads.{SpellsHead, head_fault}
use Rattle.node_page.specs.Slots.{SpellsSlot}
use Rattle.node_page.specs.Opening.{OpensTo, open_fault, live_of}
use Rattle.node_page.specs.Nodes.{SpellsIn, fault_in}
use Rattle.tree_shape.specs.declared.entry.Node.{Node}
use Rattle.node_page.specs.declared.head.Head.{Head}
use Rattle.node_page.specs.declared.slot.Slot.{Slot}
use Rattle.node_page.specs.declared.node.Version.{Version}

-- 4096 bytes
pub record IsPage (page : List ℕ) : Type 0 where
  pub size : length page ≡ 4096
  pub each : (k : ℕ) → slice_index page k < 256

-- a page has no fault exactly where it spells some head
abbrev pub FaultIsNoHead : Type 0
FaultIsNoHead = (page : List ℕ) → (head_fault page ≡ None) ↔ ((head : Head) × SpellsHead page head)

-- pages that spell one head are one page
abbrev pub OneHeadPage : Type 0
OneHeadPage = (one other : List ℕ) (head : Head) → IsPage one → IsPage other → SpellsHead one head → SpellsHead other head → one ≡ other

-- pages that spell one slot are one page if they have one gate's byte, which is so where the slot is open
abbrev pub OneSlotPage : Type 0
OneSlotPage =
    (one other : List ℕ) (slot : Slot) → IsPage one → IsPage other → SpellsSlot one slot → SpellsSlot other slot →
    ((slice_index one 0 ≡ slice_index other 0 → one ≡ other) × (IsTrue slot.gate → one ≡ other))

-- bytes have no fault exactly where they open to some head and some live slot
abbrev pub FaultIsNotOpen : Type 0
FaultIsNotOpen = (file : List ℕ) → (open_fault file ≡ None) ↔ ((head : Head) × (live : Live) × OpensTo file head live)

-- bytes open to one head and one live slot, which `live_of` tells
abbrev pub OneLiveSlot : Type 0
OneLiveSlot =
    (file : List ℕ) (head head2 : Head) (live live2 : Live) → OpensTo file head live → OpensTo file head2 live2 →
    ((head ≡ head2) × (live ≡ live2) × (live ≡ live_of file))

-- a page of each version has no fault exactly where it spells some node
abbrev pub FaultIsNoNode : Type 0
FaultIsNoNode = (version : Version) (dim : ℕ) (page : List ℕ) → (fault_in version dim page ≡ None) ↔ ((node : Node) × SpellsIn version dim page node)

-- pages that spell one node, both by one version, are one page
abbrev pub OneNodePage : Type 0
OneNodePage =
    (version : Version) (dim : ℕ) (one other : List ℕ) (node : Node) → IsPage one → IsPage other →
    SpellsIn version dim one node → SpellsIn version dim other node → one ≡ other
