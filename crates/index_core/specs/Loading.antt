-- Why a load of an opened index refuses.
use Rattle.std.specs.Prelude.{◌≡◌, ℕ, ◌==◌, ◌-◌, ◌^◌, nat_lt, List, Option, Some, None, if◌then◌else◌}
use Rattle.std.specs.List.{range_with_len}
use Rattle.metric_laws.specs.Space.{Space}
use Rattle.outside_io.specs.Causes.{Rose}
use Rattle.bulk_load.specs.Causes.{HasBuildCause}
use Rattle.bulk_load.specs.declared.faults.BuildFault.{BuildFault}
use Rattle.bulk_load.specs.declared.faults.BuildFault.TheVariants as build
use Rattle.free_pages.specs.Keeping.{FreePages}
use Rattle.disk_model.specs.Disk.{DiskState}
use Rattle.index_core.specs.Causes.{HasListCause, IsListOf}
use Rattle.index_core.specs.Files.{OpenFile}
use Rattle.index_core.specs.Index.{OpenIndex}
use Rattle.index_core.specs.declared.faults.IndexFault.{IndexFault}
use Rattle.index_core.specs.declared.faults.IndexFault.TheVariants.{Full, NotEmpty, NoRoom, Worn, Stopped, Memory, Commit}

-- maps a load's fault to the index's
abbrev pub build_fault : BuildFault → IndexFault
build_fault (build.NoRoom pages needed) = NoRoom pages needed
build_fault build.Worn = Worn
build_fault build.Memory = Memory

-- the default tags of `rows` rows: their ids
abbrev pub ids : ℕ → List ℕ
ids rows = range_with_len 0 rows

-- What refuses a load of `rows` rows at once, in this order: a commit failed before; there are objects; the head allows fewer; or
-- there is no further generation.
abbrev pub load_fault : {M : Type 0} → OpenIndex M → ℕ → Option IndexFault
load_fault index rows =
    if index.stopped then Some Stopped
    else (if index.file.live.count == 0
    then (if nat_lt index.file.head.limit rows then Some Full else (if index.file.live.generation == 2 ^ 48 - 1 then Some Worn else None))
    else Some NotEmpty)

-- Why rows were not placed: memory ran out, or the nodes of their tree that get no free page need more pages than a file may have.
abbrev pub HasLoadCause : {M : Type 0} → Space → OpenFile M → FreePages → List (List ℕ) → List ℕ → IndexFault → Type 0
HasLoadCause s file f rows labels (NoRoom pages needed) = HasBuildCause s rows labels f.free file.live (build.NoRoom pages needed)
HasLoadCause s file f rows labels Memory = Unit {0}
HasLoadCause s file f rows labels _ = ⊥

-- Why a load that nothing refused at once was refused: the rows were not placed on the pages of the free list; the disk failed in the
-- commit; or no free list was made yet and the walk that makes it met a fault.
abbrev pub HasLoadingCause : {M : Type 0} → Space → OpenIndex M → List (List ℕ) → List ℕ → DiskState → ℕ → IndexFault → Type 0
HasLoadingCause s old rows labels before faults (NoRoom pages needed) =
    (f : FreePages) × IsListOf old before f × HasLoadCause s old.file f rows labels (NoRoom pages needed)
HasLoadingCause s old rows labels before faults Memory = Unit {0}
HasLoadingCause s old rows labels before faults Commit = Rose before.faults faults
HasLoadingCause s old rows labels before faults fault = (old.free ≡ None) × HasListCause old.file before faults fault
