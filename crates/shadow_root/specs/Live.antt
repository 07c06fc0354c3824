-- The live slot of a file and the pages of its tree.
use Rattle.std.specs.Prelude.{◌≡◌, ℕ, ◌+◌, ◌≤◌, ◌<◌, ◌^◌, ◌-◌, List}
use Rattle.tree_shape.specs.declared.live.Live.{Live}
use Rattle.tree_shape.specs.Tree.{Nodes, IsNodePage}
use Rattle.node_page.specs.declared.head.Head.{Head}
use Rattle.node_page.specs.Opening.{OpensTo}
use Rattle.page_store.specs.Reached.{IsReached}

-- the file opens to the live slot `live`, whatever its head
pub record HasLive (live : Live) (file : List ℕ) : Type 0 where
  pub head : Head
  pub opens : OpensTo file head live

-- the page belongs to the live tree: it may hold a node, and child numbers lead to it from the root
abbrev pub IsLivePage : Nodes → Live → ℕ → Type 0
IsLivePage nodes live page = IsNodePage live page × IsReached nodes live.root page

-- a live slot that can follow `live`: the other side, the next generation, and bounds that need no file
pub record IsSuccessor (live next : Live) : Type 0 where
  pub sides : live.side + next.side ≡ 1
  pub generation : next.generation ≡ live.generation + 1
  pub not_worn : next.generation ≤ 2 ^ 48 - 1
  pub low_root : 3 ≤ next.root
  pub high_root : next.root < next.pages
  pub height : next.height ≤ 14
  pub low_pages : live.pages ≤ next.pages
  pub high_pages : next.pages ≤ 2 ^ 24
