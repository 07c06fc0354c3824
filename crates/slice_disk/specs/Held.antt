-- What a disk over bytes in memory means.
use Rattle.std.specs.Prelude.{◌≡◌, ◌<◌, ℕ, zero, suc, List, [], ◌∷◌, true, set, slice_index}
use Rattle.std.proofs.Common.{refl, ap}
use Rattle.disk_model.specs.Disk.{DiskState}

-- A disk that holds `file`, refused some writes and syncs, and was read. Nothing is said of a crash as long as no write was refused:
-- the bytes are the caller's. So a later state with the crash images of a state without refusals shows that no write was tried between.
abbrev pub held : List ℕ → ℕ → ℕ → DiskState
held file refused reads = record { is_known = true; bytes = file; clock = 0; images = λ moment image. 0 < refused → image ≡ file; faults = refused; reads = reads }

-- ---- what a disk has to show of it

-- an element that is written back changes nothing
pub put_back : (file : List ℕ) (i : ℕ) → set file i (slice_index file i) ≡ file
put_back [] i = refl
put_back (x ∷ file) zero = refl
put_back (x ∷ file) (suc i) = ap (λ (xs : List ℕ). x ∷ xs) (put_back file i)

pub mixed : (file one other : List ℕ) (i : ℕ) → one ≡ file → other ≡ file → set one i (slice_index other i) ≡ file
mixed file one other i first second = rw (first, second) (put_back file i)
