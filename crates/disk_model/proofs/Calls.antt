-- What a call that is recorded, and one that is not, does to what a crash may leave.
use Rattle.std.specs.Prelude.{◌≡◌, ◌⊎◌, ℕ, ◌+◌, ◌<◌, ◌≤◌, max, min, Bool, true, List, [], ◌∷◌, ◌++◌, length, slice_index, if◌then◌else◌, nat_le, nat_lt, ◌&&◌}
use Rattle.std.proofs.Common.{arith, inl, inr, refl, sym, ◌∙◌, ap, subst, ⊎_elim, length-append}
use Rattle.std.proofs.lemmas.List.{ext_get_or, take_all, take-append-le}
use Rattle.std.proofs.lemmas.Bool.{cases_lt}
use Rattle.std.proofs.lemmas.Bool.Decides.{nat_tests}
use Rattle.disk_model.specs.Disk.{DiskState, Torn, Follows, IsOneCall, IsUnchanged}
use Rattle.disk_model.specs.Moments.{started, weakened}
use Rattle.disk_model.specs.Memory.Files.{tabulated, length-tabulated, place-tabulated, overwritten, length-overwritten}
use Rattle.disk_model.specs.Memory.Model.{Call, look, sync, write, Noted}
use Rattle.disk_model.specs.Memory.Images.{Kept, at_rest, after, replayed, IsImage, LeftAt}
use Rattle.disk_model.specs.Memory.Laws.{closed_at_rest, closed_below, same_below, same_above, rests, read_is_image, left_now, now_left}

-- ---- before a write that a crash cuts short there was an image, from which the image comes

restored : Kept → ℕ → ℕ → List ℕ → ℕ → ℕ
restored kept at count image i = if nat_le at i && nat_lt i (at + count) then slice_index kept.synced i else slice_index image i

inside_restored : (kept : Kept) (at count : ℕ) (image : List ℕ) (i : ℕ) → at ≤ i → i < at + count → restored kept at count image i ≡ slice_index kept.synced i
unfolding restored
inside_restored kept at count image i le lt = grind (arith, nat_tests)

below_restored : (kept : Kept) (at count : ℕ) (image : List ℕ) (i : ℕ) → i < at → restored kept at count image i ≡ slice_index image i
unfolding restored
below_restored kept at count image i lt = grind (arith, nat_tests)

above_restored : (kept : Kept) (at count : ℕ) (image : List ℕ) (i : ℕ) → at + count ≤ i → restored kept at count image i ≡ slice_index image i
unfolding restored
above_restored kept at count image i le = grind (arith, nat_tests)

torn_from : (kept : Kept) (at : ℕ) (bytes : List ℕ) (done : Bool) (image : List ℕ) → length kept.synced ≤ length kept.last → IsImage (after kept (write at bytes done)) image
    → (before : List ℕ) × IsImage kept before × Torn at (length bytes) before image
torn_from kept at bytes done image long is =
    let n = min (length image) (length kept.last) in
    let f = restored kept at (length bytes) image in
    let before = tabulated n f in
    let size : length before ≡ n = length-tabulated n f in
    let last : length (overwritten at bytes kept.last) ≡ max (length kept.last) (at + length bytes) = length-overwritten at bytes kept.last in (
      before,
      record {
        no_shorter = omega (arith, is.no_shorter);
        no_longer = omega arith;
        others = λ i closed. place-tabulated n f i (omega (arith, is.no_shorter, closed_below kept i closed)) ∙ elim (cases_lt i at) [
          | inl lt ↦ below_restored kept at (length bytes) image i lt ∙ is.others i (same_below kept at bytes done i lt ∙ closed)
          | inr le ↦ elim (cases_lt i (at + length bytes)) [
            | inl lt ↦ inside_restored kept at (length bytes) image i le lt
            | inr past ↦ above_restored kept at (length bytes) image i past ∙ is.others i (same_above kept at bytes done i past ∙ closed)
          ]
        ];
      },
      record {
        no_shorter = omega arith;
        no_longer = omega (arith, is.no_longer);
        below = λ i within lt. sym (place-tabulated n f i (omega arith) ∙ below_restored kept at (length bytes) image i lt);
        above = λ i within le. sym (place-tabulated n f i (omega arith) ∙ above_restored kept at (length bytes) image i le);
      },
    )

-- after a sync that answered Ok there is one image
pub rest_only : (file image : List ℕ) → IsImage (at_rest file) image → image ≡ file
rest_only file image is = ext_get_or 0 image file (omega (arith, is.no_shorter, is.no_longer)) (λ i below. is.others i (closed_at_rest file i (omega (arith, is.no_longer))))

-- ---- the state by its parts

abbrev pub state_at : List ℕ → List Noted → List ℕ → ℕ → ℕ → DiskState
state_at first past bytes faults reads = record {
  is_known = true;
  bytes = bytes;
  clock = length past;
  images = LeftAt first past;
  faults = faults;
  reads = reads;
}

pub replayed_push : (kept : Kept) (past : List Noted) (noted : Noted) → replayed kept (past ++ noted ∷ []) ≡ after (replayed kept past) noted.call
unfolding replayed
replayed_push kept [] noted = refl
replayed_push kept (before ∷ past) noted = replayed_push (after kept before.call) past noted

module _ (first : List ℕ) (past : List Noted) (noted : Noted) where
  abbrev later : List Noted
  later = past ++ noted ∷ []

  longer : length later ≡ length past + 1
  longer = length-append past (noted ∷ [])

  past_stays : (moment : ℕ) (image : List ℕ) → moment < length past → LeftAt first later moment image → LeftAt first past moment image
  unfolding LeftAt
  past_stays moment image lt left = ⊎_elim
      (λ before. inl (subst (λ (done : List Noted). IsImage (replayed (at_rest first) done) image) (take-append-le moment past (noted ∷ []) (omega arith)) before))
      (λ behind. inr (subst (λ (done : List Noted). IsImage (replayed (at_rest first) done) image) (take-append-le (moment + 1) past (noted ∷ []) (omega arith)) behind))
      left

  -- the moment at which the call began
  during : (image : List ℕ) → LeftAt first later (length past) image → IsImage (replayed (at_rest first) past) image ⊎ IsImage (replayed (at_rest first) later) image
  unfolding LeftAt
  during image left = ⊎_elim
      (λ before. inl (subst (λ (done : List Noted). IsImage (replayed (at_rest first) done) image) (take-append-le (length past) past (noted ∷ []) (omega arith) ∙ take_all (length past) past (omega arith)) before))
      (λ behind. inr (subst (λ (done : List Noted). IsImage (replayed (at_rest first) done) image) (take_all (length past + 1) later (omega (arith, longer))) behind))
      left

  pub one_call : (bytes bytes' : List ℕ) (faults faults' reads reads' : ℕ) → IsOneCall (state_at first past bytes faults reads) (state_at first later bytes' faults' reads')
  one_call bytes bytes' faults faults' reads reads' = record {
    later = omega (arith, longer);
    each = λ moment image from to left. elim (cases_lt (length past) moment) [
      | inl gt ↦ let same : moment ≡ length later = omega (arith, longer) in inr (rw same at left)
      | inr le ↦
          let same : moment ≡ length past = omega arith in
          ⊎_elim (λ before. inl (now_left first past image before)) (λ behind. inr (now_left first later image behind)) (during image (rw same at left))
    ];
    past = past_stays;
  }

  -- what an image after the call is of
  pub from_push : (image : List ℕ) → LeftAt first later (length later) image → IsImage (after (replayed (at_rest first) past) noted.call) image
  from_push image left = subst (λ (kept : Kept). IsImage kept image) (replayed_push (at_rest first) past noted) (left_now first later image left)

  pub to_push : (image : List ℕ) → IsImage (after (replayed (at_rest first) past) noted.call) image → LeftAt first later (length later) image
  to_push image is = now_left first later image (subst (λ (kept : Kept). IsImage kept image) (sym (replayed_push (at_rest first) past noted)) is)

-- ---- call by call

module _ (first : List ℕ) (past : List Noted) where
  abbrev kept : Kept
  kept = replayed (at_rest first) past

  read_left : IsImage kept kept.read
  read_left = read_is_image (at_rest first) past (rests first)

  abbrev pushed : ℕ → Call → List Noted
  pushed number call = past ++ record { number = number; call = call } ∷ []

  pub write_follows : (number at : ℕ) (wrote : List ℕ) (done : Bool) (bytes bytes' : List ℕ) (faults faults' reads reads' : ℕ)
      → Follows (Torn at (length wrote)) (state_at first past bytes faults reads) (state_at first (pushed number (write at wrote done)) bytes' faults' reads')
  write_follows number at wrote done bytes bytes' faults faults' reads reads' image left =
      let noted : Noted = record { number = number; call = write at wrote done } in
      let from = torn_from kept at wrote done image (omega (arith, read_left.no_shorter, read_left.no_longer)) (from_push first past noted image left) in
      (from.0, now_left first past from.0 from.1, from.2)

  -- a call that isn't recorded
  pub nothing_follows : (at count : ℕ) (bytes bytes' : List ℕ) (faults faults' reads reads' : ℕ) → Follows (Torn at count) (state_at first past bytes faults reads) (state_at first past bytes' faults' reads')
  nothing_follows at count bytes bytes' faults faults' reads reads' image left = (
    image,
    left,
    record { no_shorter = omega arith; no_longer = omega arith; below = λ i within lt. refl; above = λ i within le. refl },
  )

  pub nothing_unchanged : (bytes bytes' : List ℕ) (faults faults' reads reads' : ℕ) → bytes' ≡ bytes → IsUnchanged (state_at first past bytes faults reads) (state_at first past bytes' faults' reads')
  nothing_unchanged bytes bytes' faults faults' reads reads' same = record {
    same_known = refl;
    same_bytes = same;
    same_images = λ image. (λ left. left, λ left. left);
    time = let run = started (state_at first past bytes faults reads) (λ image. LeftAt first past (length past) image) (λ image left. left) in record {
      later = run.later;
      each = run.each;
      past = run.past;
    };
  }

  pub nothing_one_call : (bytes bytes' : List ℕ) (faults faults' reads reads' : ℕ) → IsOneCall (state_at first past bytes faults reads) (state_at first past bytes' faults' reads')
  nothing_one_call bytes bytes' faults faults' reads reads' =
      let run = (nothing_unchanged bytes bytes faults faults' reads reads' refl).time in record {
        later = run.later;
        each = λ moment image from to left. inl (run.each moment image from to left);
        past = run.past;
      }

  -- a call that changes nothing
  pub look_unchanged : (number : ℕ) (bytes bytes' : List ℕ) (faults faults' reads reads' : ℕ) → bytes' ≡ bytes → IsUnchanged (state_at first past bytes faults reads) (state_at first (pushed number look) bytes' faults' reads')
  look_unchanged number bytes bytes' faults faults' reads reads' same = record {
    same_known = refl;
    same_bytes = same;
    same_images = λ image. (back image, λ left. to_push first past (record { number = number; call = look }) image (left_now first past image left));
    time = weakened _ _ (λ image. LeftAt first past (length past) image ⊎ LeftAt first (pushed number look) (length (pushed number look)) image) (LeftAt first past (length past))
        (one_call first past (record { number = number; call = look }) bytes bytes' faults faults' reads reads') (λ image either. ⊎_elim (λ left. left) (back image) either);
  }
    where
      back : (image : List ℕ) → LeftAt first (pushed number look) (length (pushed number look)) image → LeftAt first past (length past) image
      back image left = now_left first past image (from_push first past (record { number = number; call = look }) image left)

  pub sync_only : (number : ℕ) (image : List ℕ) → LeftAt first (pushed number sync) (length (pushed number sync)) image → image ≡ kept.read
  sync_only number image left = rest_only kept.read image (from_push first past (record { number = number; call = sync }) image left)

  pub sync_fewer : (number : ℕ) (image : List ℕ) → LeftAt first (pushed number sync) (length (pushed number sync)) image → LeftAt first past (length past) image
  sync_fewer number image left = now_left first past image (subst (λ (file : List ℕ). IsImage kept file) (sym (sync_only number image left)) read_left)

-- before the first call
pub read_of_none : (first : List ℕ) (past : List Noted) → past ≡ [] → (replayed (at_rest first) past).read ≡ first
unfolding replayed
read_of_none first past none = ap (λ (done : List Noted). (replayed (at_rest first) done).read) none
