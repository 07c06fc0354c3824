-- What a disk over a file was asked to do, and what the disk means.
use Rattle.std.specs.Prelude.{◌≡◌, ℕ, ◌+◌, true, false, List, [], ◌∷◌, ◌++◌, None, length, take, drop, if◌then◌else◌}
use Rattle.disk_model.specs.Disk.{DiskState}
use Rattle.disk_model.specs.Memory.Model.{Call, look, sync, write, Noted, SimulatedDisk}
use Rattle.disk_model.specs.Memory.Images.{kept_by, memory_state}
use Rattle.outside_io.specs.Memory.{next_count}
use Rattle.plan_disk.specs.declared.step.Step.{Step}

-- The file before; the writes and syncs in their order, with the bytes of the writes one after another; the greatest size; and how
-- often the disk failed and was read.
pub record Plan : Type 0 where
  pub base : List ℕ
  pub steps : List Step
  pub written : List ℕ
  pub most : ℕ
  pub faults : ℕ
  pub reads : ℕ

-- a step as a call of a disk; the bytes of a write are the first ones
abbrev pub call_of : Step → List ℕ → Call
call_of step bytes = if step.is_sync then sync else write step.at (take step.size bytes) true

-- the steps as calls, each with its own bytes, numbered from `first` on
unfoldable pub calls_of : ℕ → List Step → List ℕ → List Noted
calls_of first [] bytes = []
calls_of first (step ∷ steps) bytes = record { number = first; call = call_of step bytes } ∷ calls_of (first + 1) steps (drop step.size bytes)

-- how many bytes belong to the steps
unfoldable pub total : List Step → ℕ
total [] = 0
total (step ∷ steps) = step.size + total steps

-- the bytes are those of the steps
abbrev pub IsWhole : Plan → Type 0
IsWhole plan = total plan.steps ≡ length plan.written

-- A disk in memory with this file, all of it synced, and with these calls made. The first call is a look: so a crash at moment 0
-- leaves the file before, and a crash within the step number k, from 0, is at moment k + 1.
abbrev pub simulated : Plan → SimulatedDisk
simulated plan = record {
  first = plan.base;
  past = record { number = 0; call = look } ∷ calls_of 1 plan.steps plan.written;
  left = 0;
  room = plan.most;
  fails = [];
  stop = None;
  calls = length plan.steps + 1;
  faults = plan.faults;
  reads = plan.reads;
}

-- what the disk means
abbrev pub plan_state : Plan → DiskState
plan_state plan = memory_state (simulated plan)

-- the file after all steps
abbrev pub file_of : Plan → List ℕ
file_of plan = (kept_by (simulated plan)).read

-- the step of a write of these bytes, and the step of a sync
abbrev pub write_step : ℕ → List ℕ → Step
write_step at bytes = record { at = at; size = length bytes; is_sync = false }

abbrev pub sync_step : Step
sync_step = record { at = 0; size = 0; is_sync = true }

-- the plan with one step more
abbrev pub with_step : Plan → Step → List ℕ → Plan
with_step plan step bytes = record plan { steps = plan.steps ++ step ∷ []; written = plan.written ++ bytes }

-- the plan as it was, with one fault more
abbrev pub with_fault : Plan → Plan
with_fault plan = record plan { faults = next_count plan.faults }

-- the plan of the first steps alone
abbrev pub first_steps : ℕ → Plan → Plan
first_steps k plan = record plan { steps = take k plan.steps; written = take (total (take k plan.steps)) plan.written }
