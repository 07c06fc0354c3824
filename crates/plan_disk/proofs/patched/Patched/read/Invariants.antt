use Rattle.std.proofs.Common.{◌≡◌, ◌+◌, ◌-◌, ◌<◌, ◌≤◌, length, slice_index, List, ℕ}
use Rattle.plan_disk.specs.Patches.{Shows}
use Rattle.plan_disk.proofs.patched.Patched.read.Given as goal

-- the bytes so far are the file's
abbrev pub invariant-loop-done : goal.invariant-loop-done
invariant-loop-done l = record {
  within : l.done ≤ length l.buf;
  same : (file : List ℕ) → Shows l.self file → (i : ℕ) → i < l.done → slice_index l.buf i ≡ slice_index file (l.at + i);
}

abbrev pub decreases-loop-done : goal.decreases-loop-done
decreases-loop-done l = length l.initial.buf - l.done
