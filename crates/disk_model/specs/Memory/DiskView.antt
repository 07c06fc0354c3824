-- How a disk in memory represents its state.
use Rattle.std.specs.Prelude.{◌≡◌, ◌≤◌, length, vec_capacity}
use Rattle.disk_model.specs.declared.memory_disk.MemoryDisk.TheInside.{Inside}
use Rattle.disk_model.specs.Memory.Model.{SimulatedDisk}
use Rattle.disk_model.specs.Memory.Images.{at_rest, replayed}

abbrev pub simulated : Inside → SimulatedDisk
simulated disk = record {
  first = disk.first.items;
  past = disk.noted.past;
  left = disk.noted.left;
  room = disk.room;
  fails = disk.fails.items;
  stop = disk.stop;
  calls = disk.calls;
  faults = disk.faults;
  reads = disk.reads;
}

-- the bytes are those that the recorded calls leave, and memory for a file of the greatest size is reserved
pub record IsInStep (disk : Inside) : Type 0 where
  pub read : (replayed (at_rest disk.first.items) disk.noted.past).read ≡ disk.bytes.items
  pub within : length disk.bytes.items ≤ disk.room
  pub taken : disk.room ≤ vec_capacity disk.bytes
