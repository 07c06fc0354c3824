-- A new file, and why one is not made.
use Rattle.std.specs.Prelude.{◌≡◌, ℕ, ◌<◌, List, length, IsTrue}
use Rattle.outside_io.specs.Causes.{Rose}
use Rattle.disk_model.specs.Disk.{DiskState, IsUnchanged}
use Rattle.metric_laws.specs.Space.{Space}
use Rattle.tree_shape.specs.declared.live.Live.{Live}
use Rattle.node_page.specs.Bytes.{AreZero}
use Rattle.node_page.specs.Opening.{page_of}
use Rattle.node_page.specs.declared.head.Head.{Head}
use Rattle.page_store.specs.Files.{IsSoundFile}
use Rattle.shadow_root.specs.declared.faults.CreateFault.{CreateFault}
use Rattle.shadow_root.specs.declared.faults.CreateFault.TheVariants.{NotEmpty, Disk}

-- the live tree of a new file: an empty leaf
abbrev pub first_live : Live
first_live = record { side = 0; generation = 1; root = 3; height = 0; count = 0; pages = 4 }

-- the file is empty, and sound in each space of the head's dimension
abbrev pub IsMade : Head → List ℕ → Type 0
IsMade head file = (s : Space) → s.dimension ≡ head.dim → IsSoundFile s head first_live file

-- the file ends with its leaf, and nothing stands in its second slot
pub record IsBare (file : List ℕ) : Type 0 where
  pub size : length file ≡ 16384
  pub second_slot : AreZero 0 4096 (page_of file 2)

-- a file that holds something is left as it is; otherwise the disk failed
abbrev pub HasCreateCause : DiskState → DiskState → CreateFault → Type 0
HasCreateCause old new NotEmpty = (IsTrue old.is_known → 0 < length old.bytes) × IsUnchanged old new
HasCreateCause old new Disk = Rose old.faults new.faults
