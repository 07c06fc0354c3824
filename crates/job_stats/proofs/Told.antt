-- What is told after the opening is told of the bytes before it.
use Rattle.std.proofs.Common.{◌≡◌, ℕ, List, length, IsTrue, refl, sym, subst}
use Rattle.disk_model.specs.Disk.{DiskState, IsUnchanged}
use Rattle.tree_shape.specs.declared.live.Live.{Live}
use Rattle.node_page.specs.declared.head.Head.{Head}
use Rattle.node_page.specs.Opening.{OpensTo}
use Rattle.tree_outline.specs.declared.outline.ShapeLine.{ShapeLine}
use Rattle.job_files.specs.Shapes.{AreLinesOf}
use Rattle.job_stats.specs.Jobs.{TellsStats, TellsTree}

pub stats_before : (d0 d1 : DiskState) (head : Head) (live : Live) (lines : List ShapeLine) (Put : List ℕ → Type 0)
    → (IsTrue d0.is_known → OpensTo d0.bytes head live) → head.version ≡ 2 → IsUnchanged d0 d1
    → (IsTrue d1.is_known → AreLinesOf head live d1.bytes lines) → TellsTree head live lines Put → TellsStats d0 Put
stats_before d0 d1 head live lines Put opens version same lines_are told = record {
  head = head;
  live = live;
  nodes = length lines;
  levels = told.levels;
  put = told.put;
  are = λ is_known. record {
    opens = opens is_known;
    version = version;
    lines = lines;
    lines_are = rw same.same_bytes at (lines_are (subst IsTrue (sym same.same_known) is_known));
    nodes_are = refl;
    levels_are = told.levels_are;
  };
}
