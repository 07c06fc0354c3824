-- A disk over a real file: it counts, and tells nothing about the content.
use Rattle.std.specs.Prelude.{ℕ, false, [], IsTrue}
use Rattle.std.proofs.lemmas.Bool.{false≢true}
use Rattle.disk_model.specs.Disk.{DiskState}

-- how often the disk failed, and how often it was read
pub record FileCounts : Type 0 where
  pub faults : ℕ
  pub reads : ℕ

-- the disk tells no bytes, and no image
abbrev pub state_of : FileCounts → DiskState
state_of disk = record {
  is_known = false;
  bytes = [];
  clock = 0;
  images = λ moment image. ⊥;
  faults = disk.faults;
  reads = disk.reads;
}

pub told_nothing : {P : Type 0} → IsTrue false → P
told_nothing told = absurd (false≢true told)
