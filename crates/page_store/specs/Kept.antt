-- What read-only calls keep of a disk.
use Rattle.std.specs.Prelude.{refl}
use Rattle.disk_model.specs.Disk.{DiskState, MayLeave, IsUnchanged}
use Rattle.disk_model.specs.Moments.{started}

-- no call leaves the disk as it was
pub unchanged_by_none : (disk : DiskState) → IsUnchanged disk disk
unchanged_by_none disk = record {
  same_known = refl;
  same_bytes = refl;
  same_images = λ image. (λ left. left, λ left. left);
  time = started disk (MayLeave disk) (λ image left. left);
}
