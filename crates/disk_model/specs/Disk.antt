-- What a disk means to its users: what a read gives, and what a crash may leave.
use Rattle.std.specs.Prelude.{◌≡◌, ◌⊎◌, ◌↔◌, ℕ, ◌+◌, ◌<◌, ◌≤◌, max, Bool, List, length, slice_index}

-- What a disk means: the bytes that a read gives, where it tells them; a clock, which is a number that never falls; the files that a
-- crash at a moment up to now may leave; how often the disk failed; and how often it was read.
pub record DiskState : Type 1 where
  pub is_known : Bool
  pub bytes : List ℕ
  pub clock : ℕ
  pub images : ℕ → List ℕ → Type 0
  pub faults : ℕ
  pub reads : ℕ

-- ---- what a crash may leave

-- a crash now may leave this file
abbrev pub MayLeave : DiskState → List ℕ → Type 0
MayLeave disk file = disk.images disk.clock file

-- a crash now leaves this file and no other
abbrev pub LeavesOnly : DiskState → List ℕ → Type 0
LeavesOnly disk file = (image : List ℕ) → MayLeave disk image → image ≡ file

-- At each moment from `old` to `new` every image has `P`. What a crash before `old` may have left is unchanged.
pub record EachImage (old new : DiskState) (P : List ℕ → Type 0) : Type 0 where
  pub later : old.clock ≤ new.clock
  pub each : (moment : ℕ) (image : List ℕ) → old.clock ≤ moment → moment ≤ new.clock → new.images moment image → P image
  pub past : (moment : ℕ) (image : List ℕ) → moment < old.clock → new.images moment image → old.images moment image

-- From some moment on every image has `P`. Before that moment the images are among those of the start.
pub record EachImageOnce (old new : DiskState) (P : List ℕ → Type 0) : Type 0 where
  pub from : ℕ
  pub later : old.clock ≤ from
  pub within : from ≤ new.clock
  pub before : (moment : ℕ) (image : List ℕ) → old.clock ≤ moment → moment < from → new.images moment image → MayLeave old image
  pub after : (moment : ℕ) (image : List ℕ) → from ≤ moment → moment ≤ new.clock → new.images moment image → P image

-- ---- what a write does to a file. A place past the end of a file reads as 0.

-- the file after a write: the bytes at place `at`, zeros in a gap before them, and each other byte as before
pub record Written (at : ℕ) (bytes old new : List ℕ) : Type 0 where
  pub size : length new ≡ max (length old) (at + length bytes)
  pub inside : (i : ℕ) → i < length bytes → slice_index new (at + i) ≡ slice_index bytes i
  pub below : (i : ℕ) → i < at → slice_index new i ≡ slice_index old i
  pub above : (i : ℕ) → at + length bytes ≤ i → slice_index new i ≡ slice_index old i

-- The file after a crash cut a write of `count` bytes short: any bytes in the write's range and past the old end, any length from
-- the old one to that after the write, and each other byte as before.
pub record Torn (at count : ℕ) (old new : List ℕ) : Type 0 where
  pub no_shorter : length old ≤ length new
  pub no_longer : length new ≤ max (length old) (at + count)
  pub below : (i : ℕ) → i < length old → i < at → slice_index new i ≡ slice_index old i
  pub above : (i : ℕ) → i < length old → at + count ≤ i → slice_index new i ≡ slice_index old i

-- ---- what one call does

-- each image now comes from an image before by the step `step`
abbrev pub Follows : (List ℕ → List ℕ → Type 0) → DiskState → DiskState → Type 0
Follows step old new = (image : List ℕ) → MayLeave new image → (before : List ℕ) × MayLeave old before × step before image

-- what a read gives and the images are as before, and were the same at each moment between
pub record IsUnchanged (old new : DiskState) : Type 0 where
  pub same_known : new.is_known ≡ old.is_known
  pub same_bytes : new.bytes ≡ old.bytes
  pub same_images : (image : List ℕ) → MayLeave new image ↔ MayLeave old image
  pub time : EachImage old new (MayLeave old)

-- a crash within the call leaves what a crash before the call or after it may leave
abbrev pub IsOneCall : DiskState → DiskState → Type 0
IsOneCall old new = EachImage old new (λ image. MayLeave old image ⊎ MayLeave new image)
