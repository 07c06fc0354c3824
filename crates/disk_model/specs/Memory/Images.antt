-- What a crash may leave of a disk in memory, and which of these files an image shows.
use Rattle.std.specs.Prelude.{◌≡◌, ◌⊎◌, ℕ, zero, suc, ◌+◌, ◌%◌, ◌≤◌, Bool, true, false, List, [], ◌∷◌, length, take, slice_index, if◌then◌else◌, nat_le, nat_lt, nat_eq, ◌&&◌, ◌||◌, take_while}
use Rattle.disk_model.specs.Disk.{DiskState}
use Rattle.disk_model.specs.Memory.Files.{tabulated, overwritten}
use Rattle.disk_model.specs.Memory.Model.{Call, look, sync, write, Noted, SimulatedDisk}

-- What a read gives; what it gave at the last sync that returned Ok; the same with each write since, including those that failed;
-- and the ranges of these writes, each by its place and its number of bytes.
pub record Kept : Type 0 where
  pub read : List ℕ
  pub synced : List ℕ
  pub last : List ℕ
  pub ranges : List (ℕ × ℕ)

-- a file that is all synced
abbrev pub at_rest : List ℕ → Kept
at_rest file = record { read = file; synced = file; last = file; ranges = [] }

-- what a call makes of it
abbrev pub after : Kept → Call → Kept
after kept look = kept
after kept sync = at_rest kept.read
after kept (write at bytes done) = record {
  read = (if done then overwritten at bytes kept.read else kept.read);
  synced = kept.synced;
  last = overwritten at bytes kept.last;
  ranges = (at, length bytes) ∷ kept.ranges;
}

-- what a list of calls makes of it
unfoldable pub replayed : Kept → List Noted → Kept
replayed kept [] = kept
replayed kept (noted ∷ past) = replayed (after kept noted.call) past

-- what the disk keeps
abbrev pub kept_by : SimulatedDisk → Kept
kept_by disk = replayed (at_rest disk.first) disk.past

-- ---- what a crash may leave

-- the place lies in one of the ranges
unfoldable pub is_within : List (ℕ × ℕ) → ℕ → Bool
is_within [] i = false
is_within (range ∷ ranges) i = (nat_le range.0 i && nat_lt i (range.0 + range.1)) || is_within ranges i

-- whether a crash may leave any byte at the place: it lies past the end as of the last sync, or in a range written since
unfoldable pub is_open : Kept → ℕ → Bool
is_open kept i = nat_le (length kept.synced) i || is_within kept.ranges i

-- An open place holds any byte, and each other place its byte as of the last sync. An open place may hold any number at all: what
-- holds for any numbers holds for bytes. The length is between the size at the last sync and the greatest size since.
pub record IsImage (kept : Kept) (image : List ℕ) : Type 0 where
  pub no_shorter : length kept.synced ≤ length image
  pub no_longer : length image ≤ length kept.last
  pub others : (i : ℕ) → is_open kept i ≡ false → slice_index image i ≡ slice_index kept.synced i

-- a crash within the recorded call `moment`, counted from 0, leaves what a crash before the call or after it may leave
unfoldable pub LeftAt : List ℕ → List Noted → ℕ → List ℕ → Type 0
LeftAt first past moment image = IsImage (replayed (at_rest first) (take moment past)) image ⊎ IsImage (replayed (at_rest first) (take (moment + 1) past)) image

-- what a disk in memory means; its clock is the number of recorded calls
abbrev pub memory_state : SimulatedDisk → DiskState
memory_state disk = record {
  is_known = true;
  bytes = (kept_by disk).read;
  clock = length disk.past;
  images = LeftAt disk.first disk.past;
  faults = disk.faults;
  reads = disk.reads;
}

-- ---- the image that is shown

-- each open place holds the byte `value`, and the file is as long as it may be
unfoldable pub painted : ℕ → Kept → List ℕ
painted value kept = tabulated (length kept.last) (λ i. if is_open kept i then value else slice_index kept.synced i)

-- pick 0: as of the last sync; pick 1: as last written; any other pick: its byte in every open place
unfoldable pub shown : ℕ → Kept → List ℕ
shown zero kept = kept.synced
shown (suc zero) kept = kept.last
shown (suc (suc pick)) kept = painted ((pick + 2) % 256) kept

abbrev pub is_write : Call → Bool
is_write look = false
is_write sync = false
is_write (write at bytes done) = true

-- the call has a lower number, or is a write with this number
unfoldable pub has_begun : ℕ → Noted → Bool
has_begun moment noted = nat_lt noted.number moment || (nat_eq noted.number moment && is_write noted.call)

-- the recorded calls that have begun by the call number `moment`
abbrev pub begun : ℕ → List Noted → List Noted
begun moment past = take_while (has_begun moment) past

-- the number of these calls
abbrev pub clock_at : ℕ → SimulatedDisk → ℕ
clock_at moment disk = length (begun moment disk.past)

-- the file that `pick` shows of a crash within the call number `moment`, or after the last call
abbrev pub image_of : SimulatedDisk → ℕ → ℕ → List ℕ
image_of disk moment pick = shown pick (replayed (at_rest disk.first) (begun moment disk.past))
