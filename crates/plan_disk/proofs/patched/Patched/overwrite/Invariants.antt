use Rattle.std.proofs.Common.{◌≡◌, ◌-◌, ◌≤◌, List, ℕ, length, take}
use Rattle.disk_model.specs.Disk.{Written}
use Rattle.plan_disk.specs.Patches.{Shows, HasPlaces}
use Rattle.plan_disk.proofs.patched.Patched.overwrite.Given as goal

-- the first bytes are written
abbrev pub invariant-loop-done : goal.invariant-loop-done
invariant-loop-done l = record {
  within : l.done ≤ length l.bytes;
  base : l.self.base ≡ l.fn.self.base;
  touched : HasPlaces l.self l.at (length l.bytes);
  written : (file later : List ℕ) → Shows l.fn.self file → Written l.at (take l.done l.bytes) file later → Shows l.self later;
}

abbrev pub decreases-loop-done : goal.decreases-loop-done
decreases-loop-done l = length l.bytes - l.done
