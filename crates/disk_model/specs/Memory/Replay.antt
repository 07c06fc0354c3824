-- How the calls of a disk in memory are replayed.
use Rattle.std.specs.Prelude.{◌≡◌, ℕ, ◌+◌, ◌<◌, ◌≤◌, max, List, length, slice_index}
use Rattle.disk_model.specs.declared.replay.Replay.{Replay}
use Rattle.disk_model.specs.Memory.Images.{Kept, IsImage, shown}

-- the replay has reached the state `kept`
pub record IsReplay (replay : Replay) (kept : Kept) : Type 0 where
  pub read : replay.read.items ≡ kept.read
  pub image : replay.image.items ≡ shown replay.pick kept
  pub sound : IsImage kept kept.read

-- the file after a range of it, and a gap before that range, was painted
pub record IsPainted (value at count : ℕ) (old new : List ℕ) : Type 0 where
  pub size : length new ≡ max (length old) (at + count)
  pub inside : (i : ℕ) → i < count → slice_index new (at + i) ≡ value
  pub gap : (i : ℕ) → length old ≤ i → i < length new → slice_index new i ≡ value
  pub below : (i : ℕ) → i < length old → i < at → slice_index new i ≡ slice_index old i
  pub above : (i : ℕ) → i < length old → at + count ≤ i → slice_index new i ≡ slice_index old i
