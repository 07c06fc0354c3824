use Rattle.std.proofs.Common.{◌∙◌, refl, arith}
use Rattle.slice_disk.proofs.disk.SliceDiskDisk.write_at.Goals as goal

pub returns-clause-torn : goal.returns-clause-torn
returns-clause-torn c image left = (
  image,
  (λ refused. left (omega (arith, refused, c.refuse.ensures.cause.later)) ∙ c.refuse.ensures.bytes),
  record {
    no_shorter = omega arith;
    no_longer = omega arith;
    below = λ i inside lt. refl;
    above = λ i inside le. refl;
  },
)
