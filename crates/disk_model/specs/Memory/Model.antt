-- What a disk in memory holds, how its calls change it, and when they fail.
use Rattle.std.specs.Prelude.{◌⊎◌, ℕ, ◌+◌, ◌-◌, ◌<◌, ◌≤◌, Bool, List, [], ◌∷◌, ◌++◌, Option, length, Contains, IsSomeAnd, if◌then◌else◌, nat_le}
use Rattle.outside_io.specs.Memory.{next_count}

-- a call that changes nothing (a size, a read, or a sync that failed); a sync that returned Ok; or a write with its place, its bytes
-- and whether it was done or failed
pub data Call : Type 0 where
  look : Call
  sync : Call
  write : ℕ → List ℕ → Bool → Call

-- a call as it is recorded, with its number
pub record Noted : Type 0 where
  pub number : ℕ
  pub call : Call

-- what the record shows: the calls, oldest first, and the units that are left
pub record Recorded : Type 0 where
  pub past : List Noted
  pub left : ℕ

-- A disk in memory: the file that it was made with, all of it synced; the recorded calls, and the units that are left for more; the
-- greatest size; the numbers of the calls that are to fail, and the number from which on all calls fail; and the numbers of calls,
-- faults and reads.
pub record SimulatedDisk : Type 0 where
  pub first : List ℕ
  pub past : List Noted
  pub left : ℕ
  pub room : ℕ
  pub fails : List ℕ
  pub stop : Option ℕ
  pub calls : ℕ
  pub faults : ℕ
  pub reads : ℕ

-- the units of the record that a call uses
abbrev pub units_of : Call → ℕ
units_of look = 1
units_of sync = 1
units_of (write at bytes done) = length bytes + 1

-- whether the record has enough units for the call
abbrev pub fits : SimulatedDisk → Call → Bool
fits disk call = nat_le (units_of call) disk.left

-- the disk with a call made: the call is recorded where it fits
abbrev pub with_call : SimulatedDisk → Call → SimulatedDisk
with_call disk call = record disk {
  past = (if fits disk call then disk.past ++ record { number = disk.calls; call = call } ∷ [] else disk.past);
  left = (if fits disk call then disk.left - units_of call else disk.left);
  calls = next_count disk.calls;
}

-- the disk after a result was returned: a fault is counted
abbrev pub with_answer : SimulatedDisk → Bool → SimulatedDisk
with_answer disk ok = record disk { faults = (if ok then disk.faults else next_count disk.faults) }

-- the disk after a call that was done or failed, as `ok` says
abbrev pub after_call : SimulatedDisk → Call → Bool → SimulatedDisk
after_call disk call ok = with_answer (with_call disk call) ok

-- the next call fails by its number: the number is listed, or is at or above the stop
abbrev pub IsNamed : SimulatedDisk → Type 0
IsNamed disk = Contains disk.fails disk.calls ⊎ IsSomeAnd disk.stop (λ stop. stop ≤ disk.calls)

-- the next call, which writes `count` bytes, fails: by its number, or because too few units are left
abbrev pub IsRefused : SimulatedDisk → ℕ → Type 0
IsRefused disk count = IsNamed disk ⊎ (disk.left < count + 1)
