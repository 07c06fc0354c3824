-- What each page of a file holds.
use Rattle.std.specs.Prelude.{ℕ, ◌≡◌, ◌≤◌, ◌<◌, ◌&&◌, nat_le, nat_lt, Bool, true, false, List, Option, Some, None, Result, Ok, Err, if◌then◌else◌}
use Rattle.tree_shape.specs.declared.entry.Node.{Node}
use Rattle.tree_shape.specs.Tree.{Nodes}
use Rattle.node_page.specs.declared.node.NodeFault.{NodeFault}
use Rattle.node_page.specs.declared.node.Version.{Version}
use Rattle.node_page.specs.declared.node.Version.TheVariants.{First, Second}
use Rattle.node_page.specs.Nodes.{fault_in, node_in}
use Rattle.node_page.specs.Opening.{page_of}
use Rattle.page_store.specs.declared.pages.PageFault.{PageFault}
use Rattle.page_store.specs.declared.pages.PageFault.TheVariants.{Disk, Bad, Outside, Memory, Repeats, Level}

-- what each page holds, or why it holds no node
abbrev pub Read : Type 0
Read = ℕ → Result Node PageFault

-- nodes stand on the pages from 3 up and below the number of pages
abbrev pub IsWithin : ℕ → ℕ → Type 0
IsWithin pages page = (3 ≤ page) × (page < pages)

unfoldable pub is_within : ℕ → ℕ → Bool
is_within pages page = nat_le 3 page && nat_lt page pages

-- a page without a fault holds its node
abbrev pub judged : ℕ → Option NodeFault → Node → Result Node PageFault
judged page None node = Ok node
judged page (Some fault) node = Err (Bad page fault)

-- what each page of a file of a version holds; nodes have points of `dim` coordinates and stand below page `pages`
unfoldable pub reading_in : Version → ℕ → ℕ → List ℕ → Read
reading_in version dim pages file page =
    if is_within pages page then judged page (fault_in version dim (page_of file page)) (node_in version dim (page_of file page)) else Err (Outside page)

-- the same for a file of version 2
abbrev pub reading : ℕ → ℕ → List ℕ → Read
reading dim pages file = reading_in Second dim pages file

abbrev pub node_or_none : Result Node PageFault → Option Node
node_or_none (Ok node) = Some node
node_or_none (Err fault) = None

-- the node of each page that holds one
abbrev pub nodes_of : Read → Nodes
nodes_of read page = node_or_none (read page)

-- why the bytes of a page gave no node
abbrev pub IsBytesFault : Version → ℕ → List ℕ → ℕ → PageFault → Type 0
IsBytesFault version dim bytes page (Bad p fault) = (p ≡ page) × (fault_in version dim bytes ≡ Some fault)
IsBytesFault version dim bytes page Memory = Unit {0}
IsBytesFault version dim bytes page Disk = ⊥
IsBytesFault version dim bytes page (Outside p) = ⊥
IsBytesFault version dim bytes page (Repeats p) = ⊥
IsBytesFault version dim bytes page (Level p) = ⊥
