-- What new nodes make of a file.
use Rattle.std.specs.Prelude.{◌⊎◌, ◌≡◌, ℕ, ◌+◌, ◌-◌, ◌*◌, ◌^◌, ◌<◌, ◌≤◌, List, length, map}
use Rattle.std.specs.List.{AllByRecursion, range_with_len}
use Rattle.metric_laws.specs.Lists.{IsIn}
use Rattle.tree_shape.specs.declared.live.Live.{Live}
use Rattle.tree_shape.specs.declared.entry.Node.{Node}
use Rattle.tree_shape.specs.declared.entry.Node.TheVariants.{Leaf, Inner}
use Rattle.tree_shape.specs.Tree.{Nodes, pages_at, times}
use Rattle.tree_shape.specs.Plain.{Tall, tree_at}
use Rattle.node_page.specs.Nodes.{IsValidNode}
use Rattle.node_page.specs.Opening.{IsValidLive}
use Rattle.node_page.specs.declared.head.Head.{Head}
use Rattle.page_store.specs.declared.staging.Placed.{Placed}
use Rattle.page_store.specs.declared.staging.StagedNode.{StagedNode}
use Rattle.page_store.specs.Reading.{IsWithin}
use Rattle.page_store.specs.Staging.{pages_of}
use Rattle.page_store.specs.Succession.{IsWritten}
use Rattle.page_store.specs.Numbers.{number_at}
use Rattle.page_store.specs.declared.settling.RoomFault.{RoomFault}
use Rattle.page_store.specs.declared.settling.RoomFault.TheVariants.{NoRoom, Memory}

-- the pages of the live tree
abbrev pub live_pages : Nodes → Live → List ℕ
live_pages nodes t = pages_at nodes t.height t.root

abbrev pub level_of : Node → ℕ
level_of (Leaf es) = 0
level_of (Inner level es) = level

-- the subtree of a staged node, as a file shows it
abbrev pub staged_tree : Nodes → StagedNode → Tall
staged_tree nodes s = record { height = level_of s.node; tree = tree_at nodes (level_of s.node) s.page }

-- none of the pages is one of the live tree's
abbrev pub AreOutside : Nodes → Live → List ℕ → Type 0
AreOutside nodes t pages = AllByRecursion (λ n. times n (live_pages nodes t) ≡ 0) pages

-- a file's nodes after a commit: the staged nodes stand on their pages, and each other page of the old live tree is as it was
abbrev pub IsOver : Nodes → Live → List StagedNode → Nodes → Type 0
IsOver old t staged new = IsWritten old (live_pages old t) staged new

-- the placement can be committed: the next live slot, which counts `added` objects more, and the staged nodes; node i stands on page
-- i of the numbers, and further nodes on the pages from the end on
pub record IsPlacement (head : Head) (t : Live) (numbers : List ℕ) (added : ℕ) (placed : Placed) : Type 0 where
  pub side : placed.next.side ≡ 1 - t.side
  pub generation : placed.next.generation ≡ t.generation + 1
  pub count : placed.next.count ≡ t.count + added
  pub pages : placed.next.pages ≡ t.pages + (length placed.staged - length numbers)
  pub valid : IsValidLive head.limit (placed.next.pages * 4096) placed.next
  pub numbered : pages_of placed.staged ≡ map (number_at numbers t.pages) (range_with_len 0 (length placed.staged))
  pub nodes : AllByRecursion (λ s. IsWithin placed.next.pages s.page × IsValidNode head.dim s.node) placed.staged
  pub given : AllByRecursion (λ s. IsIn s.page numbers ⊎ (t.pages ≤ s.page)) placed.staged
  pub new_pages : (page : ℕ) → t.pages ≤ page → page < placed.next.pages → IsIn page (pages_of placed.staged)

-- there is no room for the needed pages, or memory ran out
abbrev pub HasRoomCause : Live → ℕ → RoomFault → Type 0
HasRoomCause t needed (NoRoom pages most) = (pages ≡ t.pages) × (most ≡ needed) × (2 ^ 24 < pages + most)
HasRoomCause t needed Memory = Unit {0}
