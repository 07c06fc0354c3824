-- An index that is opened for writing, and the disks on which it stands.
use Rattle.std.specs.Prelude.{◌≡◌, ℕ, ◌≤◌, Bool, false, IsTrue, IsSome, List, Option, MatchOption}
use Rattle.std.specs.List.{AllByRecursion}
use Rattle.disk_model.specs.Disk.{DiskState, LeavesOnly}
use Rattle.tree_shape.specs.declared.live.Live.{Live}
use Rattle.tree_shape.specs.Tree.{Nodes}
use Rattle.page_store.specs.Reached.{StandsOnPages}
use Rattle.free_pages.specs.Keeping.{FreePages}
use Rattle.free_pages.specs.Commits.{AreWithin, LiesBeside}
use Rattle.index_core.specs.Files.{OpenFile, StandsOn, nodes_on}

-- an index that is opened for writing: its file, its free and held pages once that list is made, whether a commit failed, and how
-- many threads a load may use
pub record OpenIndex (M : Type 0) : Type 0 where
  pub file : OpenFile M
  pub free : Option FreePages
  pub stopped : Bool
  pub workers : ℕ

-- free and held pages may hold nodes, and no commit was named that is still to come
pub record IsValidFree (t : Live) (f : FreePages) : Type 0 where
  pub within : AreWithin t.pages f
  pub newest : f.newest ≤ t.generation
  pub pins : AllByRecursion (λ pin. pin ≤ t.generation) f.pins

-- what always holds of an index, wherever it stands
pub record IsValidIndex {M : Type 0} (index : OpenIndex M) : Type 0 where
  pub some_workers : 1 ≤ index.workers
  pub few_workers : index.workers ≤ 64
  pub free : MatchOption index.free (Unit {0}) (IsValidFree index.file.live)

-- free and held pages lie beside the live tree: it stands on pages that hold nodes, and none of them is free or held
pub record AreSpare (nodes : Nodes) (t : Live) (f : FreePages) : Type 0 where
  pub tree : List ℕ
  pub stands : StandsOnPages nodes t tree
  pub have : AllByRecursion (λ page. IsSome (nodes page)) tree
  pub beside : LiesBeside tree f

-- The index stands on the disk alone: what the disk tells is all that a crash may leave, it opens to the index's head and live slot,
-- what is kept agrees with its pages, and the free and held pages lie beside its live tree.
pub record StandsAlone {M : Type 0} (index : OpenIndex M) (disk : DiskState) : Type 0 where
  pub stands : StandsOn index.file disk
  pub only : IsTrue disk.is_known → LeavesOnly disk disk.bytes
  pub spare : IsTrue disk.is_known → MatchOption index.free (Unit {0}) (AreSpare (nodes_on index.file disk) index.file.live)

-- the index is stopped, or stands on the disk
abbrev pub MayGoOn : {M : Type 0} → OpenIndex M → DiskState → Type 0
MayGoOn index disk = index.stopped ≡ false → StandsAlone index disk
