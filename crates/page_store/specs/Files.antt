-- Which files are sound.
use Rattle.std.specs.Prelude.{◌≡◌, ℕ, ◌<◌, List}
use Rattle.metric_laws.specs.Space.{Space}
use Rattle.tree_shape.specs.declared.live.Live.{Live}
use Rattle.tree_shape.specs.Tree.{Nodes, IsSoundTree, points_by_id, tags_by_id}
use Rattle.node_page.specs.declared.head.Head.{Head}
use Rattle.node_page.specs.Opening.{OpensTo}
use Rattle.page_store.specs.Reading.{reading, nodes_of}

-- the nodes on a file's pages below the live slot's number of pages
abbrev pub nodes_in : ℕ → Live → List ℕ → Nodes
nodes_in dim live file = nodes_of (reading dim live.pages file)

-- the file opens to this head and this live slot, and its live tree is sound in the space
pub record IsSoundFile (s : Space) (head : Head) (live : Live) (file : List ℕ) : Type 0 where
  pub opens : OpensTo file head live
  pub version : head.version ≡ 2
  pub dimension : s.dimension ≡ head.dim
  pub tree : IsSoundTree s (nodes_in head.dim live file) live

-- the objects' points and tags, in order of id
abbrev pub points_in : ℕ → Live → List ℕ → List (List ℕ)
points_in dim live file = points_by_id (nodes_in dim live file) live

abbrev pub tags_in : ℕ → Live → List ℕ → List ℕ
tags_in dim live file = tags_by_id (nodes_in dim live file) live

-- the file opens to a live slot with more than 262144 pages (one gigabyte), too many to be taken into memory or sealed
abbrev pub IsLarge : List ℕ → Type 0
IsLarge file = (head : Head) × (live : Live) × OpensTo file head live × (262144 < live.pages)
