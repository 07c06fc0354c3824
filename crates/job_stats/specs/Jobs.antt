-- What the job `stats` does and writes, by the status with which it ends.
use Rattle.std.specs.Prelude.{◌≡◌, ◌≢◌, ◌*◌, ◌+◌, ◌-◌, ℕ, List, ◌++◌, length, flat_map, decimal, codes, IsTrue}
use Rattle.std.specs.Io.KnownBytes.{Appends}
use Rattle.outside_io.specs.Bytes.{AppendsPrefix}
use Rattle.outside_io.specs.Causes.{Rose}
use Rattle.outside_io.specs.Sinks.{SinkState, Tells}
use Rattle.disk_model.specs.Disk.{DiskState, IsUnchanged}
use Rattle.tree_shape.specs.declared.live.Live.{Live}
use Rattle.node_page.specs.declared.head.Head.{Head}
use Rattle.node_page.specs.Opening.{OpensTo}
use Rattle.page_store.specs.declared.pages.PageFault.{PageFault}
use Rattle.tree_outline.specs.declared.outline.ShapeLine.{ShapeLine}
use Rattle.fault_lines.specs.Lines.{numbered}
use Rattle.rows_text.specs.Texts.{counted, line_end, space}
use Rattle.job_files.specs.Jobs.{IsNoIndex}
use Rattle.job_files.specs.Lines.{damaged_text, not_index_text, or_dash}
use Rattle.job_files.specs.Shapes.{AreLinesOf, IsDamaged, IsSound}
use Rattle.job_stats.specs.declared.numbers.LevelNumbers.{LevelNumbers}
use Rattle.job_stats.specs.declared.numbers.Spread.{Spread}
use Rattle.job_stats.specs.Names.{metric_word, promote_word, split_word}
use Rattle.job_stats.specs.Numbers.{AreLevels}

-- `WORD NAME`
abbrev pub named : List ℕ → List ℕ → List ℕ
named word name = word ++ name ++ line_end

-- the first three pages hold the head and the two slots; on the others stand nodes, or they are free
abbrev pub head_pages : ℕ
head_pages = 3

abbrev pub spread_text : Spread → List ℕ
spread_text spread = decimal spread.least ++ numbered space spread.middle ++ numbered space spread.most

-- `level LEVEL nodes NODES entries LEAST MIDDLE MOST radius LEAST MIDDLE MOST`: the root has no radius
abbrev pub level_text : LevelNumbers → List ℕ
level_text numbers =
    numbered (codes "level ") numbers.level ++ numbered (codes " nodes ") numbers.nodes
    ++ codes " entries " ++ or_dash spread_text numbers.entries ++ codes " radius " ++ or_dash spread_text numbers.radii ++ line_end

-- the lines of a head
abbrev pub head_text : Head → List ℕ
head_text head =
    named (codes "metric ") (metric_word head.kind) ++ counted (codes "dim ") head.dim
    ++ named (codes "promote ") (promote_word head.promote) ++ named (codes "split ") (split_word head.split)
    ++ counted (codes "max ") head.limit

-- the lines of a live tree of `nodes` nodes
abbrev pub tree_text : Live → ℕ → List ℕ
tree_text live nodes =
    counted (codes "generation ") live.generation ++ counted (codes "objects ") live.count ++ counted (codes "height ") live.height
    ++ counted (codes "nodes ") nodes

-- the lines of a file's pages, where its tree has `nodes` nodes
abbrev pub pages_text : ℕ → ℕ → List ℕ
pages_text pages nodes =
    counted (codes "pages ") pages ++ counted (codes "free ") (pages - (head_pages + nodes)) ++ counted (codes "bytes ") (4096 * pages)

-- the lines of a head, of its tree, of the file's pages, and of the tree's levels
abbrev pub stats_text : Head → Live → ℕ → List LevelNumbers → List ℕ
stats_text head live nodes levels = head_text head ++ tree_text live nodes ++ pages_text live.pages nodes ++ flat_map level_text levels

-- the file opens to this head and this tree, whose nodes are walked by child numbers, with these numbers
pub record AreStatsOf (file : List ℕ) (head : Head) (live : Live) (nodes : ℕ) (levels : List LevelNumbers) : Type 0 where
  pub opens : OpensTo file head live
  pub version : head.version ≡ 2
  pub lines : List ShapeLine
  pub lines_are : AreLinesOf head live file lines
  pub nodes_are : nodes ≡ length lines
  pub levels_are : AreLevels lines live.height levels

-- lines of a file, which `Put` says were put whole or in front
pub record TellsStats (disk : DiskState) (Put : List ℕ → Type 0) : Type 0 where
  pub head : Head
  pub live : Live
  pub nodes : ℕ
  pub levels : List LevelNumbers
  pub put : Put (stats_text head live nodes levels)
  pub are : IsTrue disk.is_known → AreStatsOf disk.bytes head live nodes levels

-- the lines of a tree with the nodes `lines`, which `Put` says were put whole or in front
pub record TellsTree (head : Head) (live : Live) (lines : List ShapeLine) (Put : List ℕ → Type 0) : Type 0 where
  pub levels : List LevelNumbers
  pub levels_are : AreLevels lines live.height levels
  pub put : Put (stats_text head live (length lines) levels)

-- what stands on out when `stats` ends
pub record Stats (disk0 disk1 : DiskState) (out0 out1 : SinkState) (status : ℕ) : Type 0 where
  pub unchanged : IsUnchanged disk0 disk1
  pub done : status ≡ 0 → TellsStats disk0 (Appends out0.written out1.written)
  -- a front of the lines
  pub part : status ≡ 4 → TellsStats disk0 (AppendsPrefix out0.written out1.written)
  pub disk : status ≡ 5 → Rose disk0.faults disk1.faults × Tells out0 out1 (codes "fault disk\n")
  pub not_index : status ≡ 6 → (name : List ℕ) × Tells out0 out1 (not_index_text name) × (IsTrue disk0.is_known → IsNoIndex disk0.bytes name)
  pub memory : status ≡ 8 → Tells out0 out1 (codes "fault memory\n")
  pub damaged : status ≡ 9 → (fault : PageFault) × Tells out0 out1 (damaged_text fault) × (IsTrue disk0.is_known → IsDamaged disk0.bytes fault)
  -- a sound file gives neither status 6 nor status 9
  pub sound : IsTrue disk0.is_known → (head : Head) (live : Live) → IsSound head live disk0.bytes → (status ≢ 6) × (status ≢ 9)
