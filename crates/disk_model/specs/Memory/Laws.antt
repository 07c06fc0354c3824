-- What a read gives is an image, and two images may be mixed place by place.
use Rattle.std.specs.Prelude.{◌≡◌, ◌⊎◌, ℕ, ◌+◌, ◌<◌, ◌≤◌, Bool, true, false, List, [], ◌∷◌, length, set, slice_index}
use Rattle.std.proofs.Common.{arith, inl, inr, refl, sym, ◌∙◌, ap, subst, ⊎_elim, length-set}
use Rattle.std.proofs.lemmas.List.{get_or-set_same, get_or-set_other, take_all}
use Rattle.std.proofs.lemmas.Bool.{cases_eq}
use Rattle.std.proofs.lemmas.Bool.Decides.{nat_tests}
use Rattle.disk_model.specs.Disk.{MayLeave}
use Rattle.disk_model.specs.Memory.Files.{length-overwritten, overwritten-written}
use Rattle.disk_model.specs.Memory.Model.{Call, look, sync, write, Noted, SimulatedDisk}
use Rattle.disk_model.specs.Memory.Images.{Kept, at_rest, after, replayed, kept_by, is_within, is_open, IsImage, LeftAt, memory_state}

-- ---- which places are open

pub open_past : (kept : Kept) (i : ℕ) → length kept.synced ≤ i → is_open kept i ≡ true
unfolding is_open
open_past kept i past = grind (arith, nat_tests)

pub closed_below : (kept : Kept) (i : ℕ) → is_open kept i ≡ false → i < length kept.synced
unfolding is_open
closed_below kept i closed = grind (arith, nat_tests)

pub closed_at_rest : (file : List ℕ) (i : ℕ) → i < length file → is_open (at_rest file) i ≡ false
unfolding is_open is_within
closed_at_rest file i below = grind (arith, nat_tests)

pub open_inside : (kept : Kept) (at : ℕ) (bytes : List ℕ) (done : Bool) (i : ℕ) → at ≤ i → i < at + length bytes →
    is_open (after kept (write at bytes done)) i ≡ true
unfolding is_open is_within
open_inside kept at bytes done i le lt = grind (arith, nat_tests)

pub same_below : (kept : Kept) (at : ℕ) (bytes : List ℕ) (done : Bool) (i : ℕ) → i < at → is_open (after kept (write at bytes done)) i ≡ is_open kept i
unfolding is_open is_within
same_below kept at bytes done i lt = grind (arith, nat_tests)

pub same_above : (kept : Kept) (at : ℕ) (bytes : List ℕ) (done : Bool) (i : ℕ) → at + length bytes ≤ i →
    is_open (after kept (write at bytes done)) i ≡ is_open kept i
unfolding is_open is_within
same_above kept at bytes done i le = grind (arith, nat_tests)

pub closed_before : (kept : Kept) (at : ℕ) (bytes : List ℕ) (done : Bool) (i : ℕ) →
    is_open (after kept (write at bytes done)) i ≡ false → is_open kept i ≡ false
unfolding is_open is_within
closed_before kept at bytes done i closed = grind (arith, nat_tests)

pub closed_outside : (kept : Kept) (at : ℕ) (bytes : List ℕ) (done : Bool) (i : ℕ) →
    is_open (after kept (write at bytes done)) i ≡ false → (i < at) ⊎ (at + length bytes ≤ i)
unfolding is_open is_within
closed_outside kept at bytes done i closed = grind (arith, nat_tests)

-- ---- what a read gives may be left, before the next call and after it

pub rests : (file : List ℕ) → IsImage (at_rest file) file
rests file = record { no_shorter = omega arith; no_longer = omega arith; others = λ i closed. refl }

pub reads_on : (kept : Kept) (call : Call) → IsImage kept kept.read → IsImage (after kept call) (after kept call).read
reads_on kept look is = is
reads_on kept sync is = rests kept.read
reads_on kept (write at bytes true) is =
    let read = overwritten-written at bytes kept.read in
    record {
      no_shorter = omega (arith, is.no_shorter, read.size);
      no_longer = omega (arith, is.no_longer, read.size, length-overwritten at bytes kept.last);
      others = λ i closed. ⊎_elim (λ lt. read.below i lt) (λ le. read.above i le) (closed_outside kept at bytes true i closed)
          ∙ is.others i (closed_before kept at bytes true i closed);
    }
reads_on kept (write at bytes false) is = record {
  no_shorter = is.no_shorter;
  no_longer = omega (arith, is.no_longer, length-overwritten at bytes kept.last);
  others = λ i closed. is.others i (closed_before kept at bytes false i closed);
}

pub read_is_image : (kept : Kept) (past : List Noted) → IsImage kept kept.read → IsImage (replayed kept past) (replayed kept past).read
unfolding replayed
read_is_image kept [] is = is
read_is_image kept (noted ∷ past) is = read_is_image (after kept noted.call) past (reads_on kept noted.call is)

-- ---- the images of the last moment

pub left_now : (first : List ℕ) (past : List Noted) (image : List ℕ) → LeftAt first past (length past) image → IsImage (replayed (at_rest first) past) image
unfolding LeftAt
left_now first past image (inl left) = subst (λ (done : List Noted). IsImage (replayed (at_rest first) done) image)
    (take_all (length past) past (omega arith)) left
left_now first past image (inr left) = subst (λ (done : List Noted). IsImage (replayed (at_rest first) done) image)
    (take_all (length past + 1) past (omega arith)) left

pub now_left : (first : List ℕ) (past : List Noted) (image : List ℕ) → IsImage (replayed (at_rest first) past) image → LeftAt first past (length past) image
unfolding LeftAt
now_left first past image is =
    inl (subst (λ (done : List Noted). IsImage (replayed (at_rest first) done) image)
    (sym (take_all (length past) past (omega arith))) is)

-- ---- the laws of the trait

pub read_may_be_left : (disk : SimulatedDisk) → MayLeave (memory_state disk) (memory_state disk).bytes
read_may_be_left disk = now_left disk.first disk.past (kept_by disk).read (read_is_image (at_rest disk.first) disk.past (rests disk.first))

mixed : (kept : Kept) (one other : List ℕ) (i : ℕ) → IsImage kept one → IsImage kept other → i < length one → i < length other →
    IsImage kept (set one i (slice_index other i))
mixed kept one other i is_one is_other below_one below_other =
    let same : length (set one i (slice_index other i)) ≡ length one = length-set one i (slice_index other i) in
    record {
      no_shorter = omega (arith, is_one.no_shorter);
      no_longer = omega (arith, is_one.no_longer);
      others = λ j closed. elim (cases_eq j i) [
        | inl here ↦ at_place j here closed
        | inr elsewhere ↦ get_or-set_other one i j (slice_index other i) 0 elsewhere ∙ is_one.others j closed
      ];
    }
  where
    at_place : (j : ℕ) → j ≡ i → is_open kept j ≡ false → slice_index (set one i (slice_index other i)) j ≡ slice_index kept.synced j
    at_place j here closed =
        ap (λ (k : ℕ). slice_index (set one i (slice_index other i)) k) here ∙ get_or-set_same one i (slice_index other i) 0 below_one
        ∙ ap (λ (k : ℕ). slice_index other k) (sym here) ∙ is_other.others j closed

pub places_mix : (disk : SimulatedDisk) (one other : List ℕ) (i : ℕ) → MayLeave (memory_state disk) one →
    MayLeave (memory_state disk) other → i < length one → i < length other
    → MayLeave (memory_state disk) (set one i (slice_index other i))
places_mix disk one other i left_one left_other below_one below_other =
    now_left disk.first disk.past (set one i (slice_index other i))
    (mixed (kept_by disk) one other i (left_now disk.first disk.past one left_one) (left_now disk.first disk.past other left_other) below_one below_other)
