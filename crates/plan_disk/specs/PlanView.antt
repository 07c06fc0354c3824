-- How a disk over a file keeps its plan.
use Rattle.std.specs.Prelude.{◌≡◌, length}
use Rattle.plan_disk.specs.declared.disk.PlanDisk.TheInside.{Inside}
use Rattle.plan_disk.specs.Patches.{Shows}
use Rattle.plan_disk.specs.Plan.{Plan, IsWhole, file_of}

abbrev pub planned : Inside → Plan
planned disk = record {
  base = disk.patched.base;
  steps = disk.steps.items;
  written = disk.written.items;
  most = disk.most;
  faults = disk.faults;
  reads = disk.reads;
}

-- the bytes are those of the steps, and the pages show the file after them, whose size is kept
pub record IsInStep (disk : Inside) : Type 0 where
  pub whole : IsWhole (planned disk)
  pub shows : Shows disk.patched (file_of (planned disk))
  pub size : disk.size ≡ length (file_of (planned disk))
