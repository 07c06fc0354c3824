-- What each call of a disk in memory does to what it means, from the disk that it leaves.
use Rattle.std.specs.Prelude.{◌≡◌, ℕ, ◌+◌, ◌<◌, Bool, true, false, List, [], length, if◌then◌else◌, nat_le, Result, Ok, Err, OnOk, OnErr, IsErr, is_ok}
use Rattle.std.proofs.Common.{arith, inl, inr, refl, sym, ◌∙◌, ap, subst}
use Rattle.std.proofs.lemmas.Bool.{cases_Bool, cases_lt}
use Rattle.std.proofs.lemmas.Bool.Decides.{nat_tests}
use Rattle.std.proofs.lemmas.Bool.{false≢true}
use Rattle.disk_model.specs.Disk.{Torn, Written, MayLeave, LeavesOnly, Follows, IsOneCall, IsUnchanged}
use Rattle.disk_model.specs.Moments.{written_torn}
use Rattle.disk_model.specs.Memory.Files.{overwritten, overwritten-written}
use Rattle.disk_model.specs.Memory.Model.{Call, look, sync, write, SimulatedDisk, fits, after_call}
use Rattle.disk_model.specs.Memory.Images.{Kept, at_rest, after, kept_by, memory_state}
use Rattle.disk_model.proofs.Calls.{replayed_push, one_call, write_follows, nothing_follows, nothing_unchanged, nothing_one_call, look_unchanged, sync_only, sync_fewer}

-- the disk that a call leaves, with this count of reads
abbrev pub left_by : SimulatedDisk → Call → Bool → ℕ → SimulatedDisk
left_by old call ok reads = record (after_call old call ok) { reads = reads }

-- ---- what a read gives

read_noted : (old : SimulatedDisk) (call : Call) (ok : Bool) (reads : ℕ) → fits old call ≡ true → (kept_by (left_by old call ok reads)).read ≡ (after (kept_by old) call).read
read_noted old call ok reads noted = rw noted (ap (λ (kept : Kept). kept.read) (replayed_push (at_rest old.first) old.past (record { number = old.calls; call = call })))

-- a call that doesn't change it
same_read : (old : SimulatedDisk) (call : Call) (ok : Bool) (reads : ℕ) → (after (kept_by old) call).read ≡ (kept_by old).read → (kept_by (left_by old call ok reads)).read ≡ (kept_by old).read
same_read old call ok reads same = elim (cases_Bool (fits old call)) [
  | inl noted ↦ read_noted old call ok reads noted ∙ same
  | inr full ↦ rw full refl
]

-- ---- each moment, and the images

time_of : (old : SimulatedDisk) (call : Call) (ok : Bool) (reads : ℕ) → IsOneCall (memory_state old) (memory_state (left_by old call ok reads))
time_of old call ok reads = elim (cases_Bool (fits old call)) [
  | inl noted ↦ rw noted (one_call old.first old.past (record { number = old.calls; call = call }) _ _ _ _ _ _)
  | inr full ↦ rw full (nothing_one_call old.first old.past _ _ _ _ _ _)
]

torn_of : (old : SimulatedDisk) (at : ℕ) (wrote : List ℕ) (done ok : Bool) (reads : ℕ) → Follows (Torn at (length wrote)) (memory_state old) (memory_state (left_by old (write at wrote done) ok reads))
torn_of old at wrote done ok reads = elim (cases_Bool (fits old (write at wrote done))) [
  | inl noted ↦ rw noted (write_follows old.first old.past old.calls at wrote done [] [] 0 0 0 0)
  | inr full ↦ rw full (nothing_follows old.first old.past at (length wrote) [] [] 0 0 0 0)
]

unchanged_of : (old : SimulatedDisk) (ok : Bool) (reads : ℕ) → IsUnchanged (memory_state old) (memory_state (left_by old look ok reads))
unchanged_of old ok reads = elim (cases_Bool (fits old look)) [
  | inl noted ↦ rw noted (look_unchanged old.first old.past old.calls _ _ _ _ _ _ (rw noted at (same_read old look ok reads refl)))
  | inr full ↦ rw full (nothing_unchanged old.first old.past _ _ _ _ _ _ refl)
]

-- ---- a call that answers Ok is recorded

noted_if_ok : (left units : ℕ) → (left < units → false ≡ true) → nat_le units left ≡ true
noted_if_ok left units refused = elim (cases_lt left units) [
  | inl full ↦ absurd (false≢true (refused full))
  | inr le ↦ grind (arith, nat_tests)
]

-- ---- the clauses of each call, from the disk that it leaves

module _ (old new : SimulatedDisk) where
  pub unchanged : (ok : Bool) (reads : ℕ) → new ≡ left_by old look ok reads → IsUnchanged (memory_state old) (memory_state new)
  unchanged ok reads is = subst (λ (disk : SimulatedDisk). IsUnchanged (memory_state old) (memory_state disk)) (sym is) (unchanged_of old ok reads)

  pub one_call_by : (call : Call) (ok : Bool) → new ≡ after_call old call ok → IsOneCall (memory_state old) (memory_state new)
  one_call_by call ok is = subst (λ (disk : SimulatedDisk). IsOneCall (memory_state old) (memory_state disk)) (sym is) (time_of old call ok old.reads)

  pub torn_by : (at : ℕ) (wrote : List ℕ) (done ok : Bool) → new ≡ after_call old (write at wrote done) ok → Follows (Torn at (length wrote)) (memory_state old) (memory_state new)
  torn_by at wrote done ok is = subst (λ (disk : SimulatedDisk). Follows (Torn at (length wrote)) (memory_state old) (memory_state disk)) (sym is) (torn_of old at wrote done ok old.reads)

  same_by : (call : Call) (ok : Bool) → (after (kept_by old) call).read ≡ (kept_by old).read → new ≡ after_call old call ok → (kept_by new).read ≡ (kept_by old).read
  same_by call ok same is = ap (λ (disk : SimulatedDisk). (kept_by disk).read) is ∙ same_read old call ok old.reads same

  pub unwritten_by : {T E : Type 0} (at : ℕ) (wrote : List ℕ) (result : Result T E) → new ≡ after_call old (write at wrote (is_ok result)) (is_ok result) → OnErr result ((kept_by new).read ≡ (kept_by old).read)
  unwritten_by at wrote (Ok x) is = tt
  unwritten_by at wrote (Err e) is = same_by (write at wrote false) false refl is

  pub written_by : {T E : Type 0} (at : ℕ) (wrote : List ℕ) (result : Result T E) → (old.left < length wrote + 1 → IsErr result) → new ≡ after_call old (write at wrote (is_ok result)) (is_ok result)
      → OnOk result (Written at wrote (kept_by old).read (kept_by new).read)
  written_by at wrote (Ok x) full is =
      let read : (kept_by new).read ≡ overwritten at wrote (kept_by old).read = ap (λ (disk : SimulatedDisk). (kept_by disk).read) is ∙ read_noted old (write at wrote true) true old.reads (noted_if_ok old.left (length wrote + 1) full) in
      subst (λ (file : List ℕ). Written at wrote (kept_by old).read file) (sym read) (overwritten-written at wrote (kept_by old).read)
  written_by at wrote (Err e) full is = tt

  same_torn : (at count : ℕ) (file : List ℕ) → Torn at count file file
  same_torn at count file = record { no_shorter = omega arith; no_longer = omega arith; below = λ i within lt. refl; above = λ i within le. refl }

  pub others_by : {T E : Type 0} (at : ℕ) (wrote : List ℕ) (result : Result T E) → (old.left < length wrote + 1 → IsErr result) → new ≡ after_call old (write at wrote (is_ok result)) (is_ok result)
      → Torn at (length wrote) (kept_by old).read (kept_by new).read
  others_by {T = T} {E = E} at wrote (Ok x) full is = written_torn at wrote (kept_by old).read (kept_by new).read (written_by {T = T} {E = E} at wrote (Ok x) full is)
  others_by {T = T} {E = E} at wrote (Err e) full is = subst (λ (file : List ℕ). Torn at (length wrote) (kept_by old).read file) (sym (unwritten_by {T = T} {E = E} at wrote (Err e) is)) (same_torn at (length wrote) (kept_by old).read)

  -- ---- a sync

  abbrev IsSynced : {T E : Type 0} → Result T E → Type 0
  IsSynced result = new ≡ after_call old (if is_ok result then sync else look) (is_ok result)

  pub durable_by : {T E : Type 0} (result : Result T E) → (old.left < 1 → IsErr result) → IsSynced result → OnOk result (LeavesOnly (memory_state new) (kept_by old).read)
  durable_by (Ok x) full is =
      let noted : fits old sync ≡ true = noted_if_ok old.left 1 full in
      subst (λ (disk : SimulatedDisk). LeavesOnly (memory_state disk) (kept_by old).read) (sym is) (rw noted (sync_only old.first old.past old.calls))
  durable_by (Err e) full is = tt

  pub bytes_by : {T E : Type 0} (result : Result T E) → IsSynced result → (kept_by new).read ≡ (kept_by old).read
  bytes_by (Ok x) is = same_by sync true refl is
  bytes_by (Err e) is = same_by look false refl is

  pub fewer_by : {T E : Type 0} (result : Result T E) → (old.left < 1 → IsErr result) → IsSynced result → (image : List ℕ) → MayLeave (memory_state new) image → MayLeave (memory_state old) image
  fewer_by (Ok x) full is image left =
      let noted : fits old sync ≡ true = noted_if_ok old.left 1 full in
      subst (λ (disk : SimulatedDisk). (image : List ℕ) → MayLeave (memory_state disk) image → MayLeave (memory_state old) image) (sym is) (rw noted (sync_fewer old.first old.past old.calls)) image left
  fewer_by (Err e) full is image left = ((unchanged false old.reads is).same_images image).0 left
