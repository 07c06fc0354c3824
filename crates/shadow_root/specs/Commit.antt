-- What a commit promises, and how its steps lead there.
use Rattle.std.specs.Prelude.{◌≡◌, ◌≢◌, ◌⊎◌, ℕ, ◌+◌, ◌*◌, ◌-◌, ◌<◌, ◌≤◌, List, length, slice_index, slice_get, Some, IsTrue}
use Rattle.disk_model.specs.Disk.{DiskState, MayLeave, Torn}
use Rattle.tree_shape.specs.declared.live.Live.{Live}
use Rattle.node_page.specs.declared.head.Head.{Head}
use Rattle.node_page.specs.Bytes.{number_at}
use Rattle.node_page.specs.Slots.{HasSlotRest}
use Rattle.node_page.specs.Nodes.{SpellsNode, IsValidNode}
use Rattle.node_page.specs.Opening.{page_of, OpensTo}
use Rattle.page_store.specs.declared.staging.StagedNode.{StagedNode}
use Rattle.page_store.specs.Reading.{IsWithin}
use Rattle.page_store.specs.Files.{nodes_in}
use Rattle.shadow_root.specs.Live.{HasLive, IsLivePage}

-- the node that was staged as number k
abbrev pub IsStagedAs : List StagedNode → ℕ → StagedNode → Type 0
IsStagedAs staged k s = slice_get staged k ≡ Some s

-- no node is staged for the page
abbrev pub IsNotStaged : List StagedNode → ℕ → Type 0
IsNotStaged staged p = (k : ℕ) (s : StagedNode) → IsStagedAs staged k s → s.page ≢ p

-- every staged node stands on its page
abbrev pub IsInPlace : ℕ → List StagedNode → List ℕ → Type 0
IsInPlace dim staged file = (k : ℕ) (s : StagedNode) → IsStagedAs staged k s → SpellsNode dim (page_of file s.page) s.node

-- the file opens to the live slot, and each page of its tree is as in `base`
pub record KeepsTree (dim : ℕ) (live : Live) (base file : List ℕ) : Type 0 where
  pub opens : HasLive live file
  pub tree : (p : ℕ) → IsLivePage (nodes_in dim live base) live p → page_of file p ≡ page_of base p

-- the file opens to the next slot, and each staged node stands on its page
pub record HasNext (dim : ℕ) (next : Live) (staged : List StagedNode) (file : List ℕ) : Type 0 where
  pub opens : HasLive next file
  pub in_place : IsInPlace dim staged file

-- a page that a commit may not touch unless a node is staged for it
abbrev pub IsOldPage : Live → ℕ → Type 0
IsOldPage live p = (p ≡ 0) ⊎ IsWithin live.pages p

-- Page 0, and each page of the old file that is not staged, keeps the bytes that it had at the start, where every image had the
-- same bytes there.
abbrev pub KeepsOthers : Live → List StagedNode → DiskState → List ℕ → Type 0
KeepsOthers live staged start file =
    (p : ℕ) (bytes : List ℕ) → IsOldPage live p → IsNotStaged staged p →
    ((image : List ℕ) → MayLeave start image → page_of image p ≡ bytes) → page_of file p ≡ bytes

-- no longer than the next tree's pages and the longest file at the start
abbrev pub IsNoLonger : Live → DiskState → List ℕ → Type 0
IsNoLonger next start file = (most : ℕ) → 4096 * next.pages ≤ most → ((image : List ℕ) → MayLeave start image → length image ≤ most) → length file ≤ most

-- what stood before the commit, or what stands after it
pub record IsBeforeOrAfter (dim : ℕ) (live next : Live) (staged : List StagedNode) (start : DiskState) (file : List ℕ) : Type 0 where
  pub either : KeepsTree dim live start.bytes file ⊎ HasNext dim next staged file
  pub others : KeepsOthers live staged start file
  pub size : IsNoLonger next start file

-- the staged nodes can be written on pages of `next`, and every page that is new is staged
pub record IsStagedFor (dim : ℕ) (live next : Live) (staged : List StagedNode) : Type 0 where
  pub within : (k : ℕ) (s : StagedNode) → IsStagedAs staged k s → IsWithin next.pages s.page
  pub valid : (k : ℕ) (s : StagedNode) → IsStagedAs staged k s → IsValidNode dim s.node
  pub every : (p : ℕ) → live.pages ≤ p → p < next.pages → (k : ℕ) × (s : StagedNode) × IsStagedAs staged k s × (s.page ≡ p)

-- A disk that tells its bytes is ready for the commit. Its head has dimension `dim` and a limit that the next tree keeps. Each image
-- opens to `live` and holds what a read gives in each page of the tree of `live`. No staged page lies in that tree.
pub record IsReady (dim : ℕ) (live next : Live) (staged : List StagedNode) (start : DiskState) : Type 0 where
  pub head : Head
  pub opens : OpensTo start.bytes head live
  pub version : head.version ≡ 2
  pub dim_is : head.dim ≡ dim
  pub count : next.count ≤ head.limit
  pub images : (image : List ℕ) → MayLeave start image → KeepsTree dim live start.bytes image
  pub beside : (k : ℕ) (s : StagedNode) → IsStagedAs staged k s → IsLivePage (nodes_in dim live start.bytes) live s.page → ⊥

-- ---- the steps of a commit

-- the place lies on none of the staged pages
abbrev pub IsElsewhere : List StagedNode → ℕ → Type 0
IsElsewhere staged i = (k : ℕ) (s : StagedNode) → IsStagedAs staged k s → (i < 4096 * s.page) ⊎ (4096 * s.page + 4096 ≤ i)

-- a file of the given length has room for the staged pages
abbrev pub HasRoom : List StagedNode → ℕ → Type 0
HasRoom staged most = (k : ℕ) (s : StagedNode) → IsStagedAs staged k s → 4096 * s.page + 4096 ≤ most

-- only the staged pages, and what lies past the old end, have changed, and nothing was written past the staged pages
pub record IsRewritten (staged : List StagedNode) (old new : List ℕ) : Type 0 where
  pub no_shorter : length old ≤ length new
  pub no_longer : (most : ℕ) → length old ≤ most → HasRoom staged most → length new ≤ most
  pub others : (i : ℕ) → i < length old → IsElsewhere staged i → slice_index new i ≡ slice_index old i

-- the file is an image of the start in which the staged pages were rewritten
abbrev pub IsFromRewritten : List StagedNode → DiskState → List ℕ → Type 0
IsFromRewritten staged start file = (image : List ℕ) × MayLeave start image × IsRewritten staged image file

-- the file is an image of the start, or one with a write at the gate's place, which read open where the disk tells its bytes
abbrev pub IsFromClosed : ℕ → DiskState → List ℕ → Type 0
IsFromClosed gate start file = (image : List ℕ) × MayLeave start image
    × ((file ≡ image) ⊎ ((IsTrue start.is_known → slice_index start.bytes gate ≡ 165) × Torn gate 1 image file))

-- a slot's page has the fields of `live` after its gate
pub record HasFields (page : List ℕ) (live : Live) : Type 0 where
  pub generation : number_at 8 8 page ≡ live.generation
  pub root : number_at 16 4 page ≡ live.root
  pub height : number_at 20 4 page ≡ live.height
  pub count : number_at 24 4 page ≡ live.count
  pub pages : number_at 28 4 page ≡ live.pages
  pub rest : HasSlotRest page

-- no longer than the slots, the staged pages and the longest file at the start
abbrev pub StaysWithin : List StagedNode → DiskState → List ℕ → Type 0
StaysWithin staged start file = (most : ℕ) → 12288 ≤ most → HasRoom staged most →
    ((image : List ℕ) → MayLeave start image → length image ≤ most) → length file ≤ most

-- the file is as before the commit
pub record IsKept (dim : ℕ) (live : Live) (staged : List StagedNode) (start : DiskState) (file : List ℕ) : Type 0 where
  pub tree : KeepsTree dim live start.bytes file
  pub others : KeepsOthers live staged start file
  pub size : StaysWithin staged start file

-- the nodes are in place, and the other gate is closed
pub record IsStaged (dim : ℕ) (live next : Live) (staged : List StagedNode) (start : DiskState) (file : List ℕ) : Type 0 where
  pub kept : IsKept dim live staged start file
  pub in_place : IsInPlace dim staged file
  pub room : next.pages * 4096 ≤ length file
  pub head : Head
  pub opens : OpensTo file head live
  pub count : next.count ≤ head.limit
  pub shut : slice_index file (4096 * (1 + (1 - live.side))) ≢ 165

-- the nodes are in place, the other gate is closed, and the fields of the next slot stand after that gate
pub record IsPrepared (dim : ℕ) (live next : Live) (staged : List StagedNode) (start : DiskState) (file : List ℕ) : Type 0 where
  pub before : IsStaged dim live next staged start file
  pub fields : HasFields (page_of file (1 + (1 - live.side))) next
