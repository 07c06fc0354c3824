-- What a pick shows is an image, and how a write changes it.
use Rattle.std.specs.Prelude.{◌≡◌, ◌≢◌, ℕ, zero, suc, ◌+◌, ◌-◌, ◌%◌, ◌<◌, ◌≤◌, max, Bool, true, false, List, [], ◌∷◌, length, take, slice_index, if◌then◌else◌, take_while}
use Rattle.std.proofs.Common.{arith, inl, inr, refl, sym, ◌∙◌, ap, subst, ⊎_elim}
use Rattle.std.proofs.lemmas.List.{ext_get_or}
use Rattle.std.proofs.lemmas.List.Folds.{length-prefix_len}
use Rattle.std.proofs.lemmas.Bool.{cases_lt}
use Rattle.disk_model.specs.Disk.{Written}
use Rattle.disk_model.specs.Memory.Files.{length-tabulated, place-tabulated, overwritten, length-overwritten, overwritten-written, written_is}
use Rattle.disk_model.specs.Memory.Model.{Call, look, sync, write, Noted}
use Rattle.disk_model.specs.Memory.Images.{Kept, is_open, IsImage, LeftAt, at_rest, after, replayed, painted, shown}
use Rattle.disk_model.specs.Memory.Replay.{IsPainted}
use Rattle.disk_model.specs.Memory.Laws.{open_past, open_inside, same_below, same_above, closed_below, closed_before, closed_outside, closed_at_rest, rests, read_is_image}

-- what a place holds, where open ones hold this byte
choice : Kept → ℕ → ℕ → ℕ
choice kept value i = if is_open kept i then value else slice_index kept.synced i

length-painted : (value : ℕ) (kept : Kept) → length (painted value kept) ≡ length kept.last
unfolding painted choice
length-painted value kept = length-tabulated (length kept.last) (choice kept value)

place-painted : (value : ℕ) (kept : Kept) (i : ℕ) → i < length kept.last → slice_index (painted value kept) i ≡ choice kept value i
unfolding painted choice
place-painted value kept i below = place-tabulated (length kept.last) (choice kept value) i below

choice_closed : (kept : Kept) (value i : ℕ) → is_open kept i ≡ false → choice kept value i ≡ slice_index kept.synced i
unfolding choice
choice_closed kept value i closed = rw closed refl

choice_open : (kept : Kept) (value i : ℕ) → is_open kept i ≡ true → choice kept value i ≡ value
unfolding choice
choice_open kept value i opened = rw opened refl

-- it is an image
pub shown_is_image : (pick : ℕ) (kept : Kept) → IsImage kept kept.read → IsImage kept kept.last → IsImage kept (shown pick kept)
unfolding shown
shown_is_image zero kept read last = record { no_shorter = omega arith; no_longer = omega (arith, read.no_shorter, read.no_longer); others = λ i closed. refl }
shown_is_image (suc zero) kept read last = last
shown_is_image (suc (suc pick)) kept read last = record {
  no_shorter = omega (arith, last.no_shorter, length-painted ((pick + 2) % 256) kept);
  no_longer = omega (arith, length-painted ((pick + 2) % 256) kept);
  others = λ i closed. place-painted ((pick + 2) % 256) kept i (omega (arith, last.no_shorter, closed_below kept i closed)) ∙ choice_closed kept ((pick + 2) % 256) i closed;
}

-- ---- what was last written is an image, call by call

last_on : (kept : Kept) (call : Call) → IsImage kept kept.last → IsImage (after kept call) (after kept call).last
last_on kept look last = last
last_on kept sync last = rests kept.read
last_on kept (write at bytes done) last =
    let made = overwritten-written at bytes kept.last in
    record {
      no_shorter = omega (arith, last.no_shorter, made.size);
      no_longer = omega arith;
      others = λ i closed. ⊎_elim (λ lt. made.below i lt) (λ le. made.above i le) (closed_outside kept at bytes done i closed) ∙ last.others i (closed_before kept at bytes done i closed);
    }

last_is_image : (kept : Kept) (past : List Noted) → IsImage kept kept.last → IsImage (replayed kept past) (replayed kept past).last
unfolding replayed
last_is_image kept [] last = last
last_is_image kept (noted ∷ past) last = last_is_image (after kept noted.call) past (last_on kept noted.call last)

-- ---- what a pick shows, call by call

pub shown_rest : (pick : ℕ) (file : List ℕ) → shown pick (at_rest file) ≡ file
unfolding shown
shown_rest zero file = refl
shown_rest (suc zero) file = refl
shown_rest (suc (suc pick)) file =
    let value = (pick + 2) % 256 in
    ext_get_or 0 (painted value (at_rest file)) file (length-painted value (at_rest file)) (λ i below.
    let within : i < length file = omega (arith, length-painted value (at_rest file)) in
    place-painted value (at_rest file) i within ∙ choice_closed (at_rest file) value i (closed_at_rest file i within))

same_choice : (kept later : Kept) (value i : ℕ) → later.synced ≡ kept.synced → is_open later i ≡ is_open kept i → choice later value i ≡ choice kept value i
unfolding choice
same_choice kept later value i same_synced same_open = rw (same_open, same_synced) refl

painted_more : (value : ℕ) (kept : Kept) (at : ℕ) (bytes : List ℕ) (done : Bool) (old new : List ℕ) → length kept.synced ≤ length kept.last → old ≡ painted value kept → IsPainted value at (length bytes) old new
    → new ≡ painted value (after kept (write at bytes done))
painted_more value kept at bytes done old new long is paints = ext_get_or 0 new (painted value later) size place
  where
    later : Kept
    later = after kept (write at bytes done)

    old_size : length old ≡ length kept.last
    old_size = ap length is ∙ length-painted value kept

    last_size : length later.last ≡ max (length kept.last) (at + length bytes)
    last_size = length-overwritten at bytes kept.last

    size : length new ≡ length (painted value later)
    size = omega (arith, paints.size, old_size, last_size, length-painted value later)

    old_place : (i : ℕ) → i < length old → slice_index old i ≡ choice kept value i
    old_place i below = ap (λ (file : List ℕ). slice_index file i) is ∙ place-painted value kept i (omega (arith, old_size))

    place : (i : ℕ) → i < length new → slice_index new i ≡ slice_index (painted value later) i
    place i below =
        let shows : slice_index (painted value later) i ≡ choice later value i = place-painted value later i (omega (arith, size, length-painted value later)) in
        elim (cases_lt i at) [
          | inl before ↦ elim (cases_lt i (length old)) [
            | inl within ↦ paints.below i within before ∙ old_place i within ∙ sym (same_choice kept later value i refl (same_below kept at bytes done i before)) ∙ sym shows
            | inr past ↦ paints.gap i past below ∙ sym (choice_open later value i (open_past later i (omega (arith, old_size)))) ∙ sym shows
          ]
          | inr from ↦ elim (cases_lt i (at + length bytes)) [
            | inl to ↦
                let j = i - at in
                let here : at + j ≡ i = omega arith in
                ap (λ (k : ℕ). slice_index new k) (sym here) ∙ paints.inside j (omega arith) ∙ sym (choice_open later value i (open_inside kept at bytes done i from to)) ∙ sym shows
            | inr behind ↦ elim (cases_lt i (length old)) [
              | inl within ↦ paints.above i within behind ∙ old_place i within ∙ sym (same_choice kept later value i refl (same_above kept at bytes done i behind)) ∙ sym shows
              | inr past ↦ paints.gap i past below ∙ sym (choice_open later value i (open_past later i (omega (arith, old_size)))) ∙ sym shows
            ]
          ]
        ]

pub shown_write_zero : (kept : Kept) (at : ℕ) (bytes : List ℕ) (done : Bool) (image : List ℕ) → image ≡ shown 0 kept → image ≡ shown 0 (after kept (write at bytes done))
unfolding shown
shown_write_zero kept at bytes done image is = is

pub shown_write_one : (kept : Kept) (at : ℕ) (bytes : List ℕ) (done : Bool) (old new : List ℕ) → Written at bytes old new → old ≡ shown 1 kept → new ≡ shown 1 (after kept (write at bytes done))
unfolding shown
shown_write_one kept at bytes done old new written is = written_is at bytes old new written ∙ ap (λ (file : List ℕ). overwritten at bytes file) is

pub shown_write_more : (pick : ℕ) (kept : Kept) (at : ℕ) (bytes : List ℕ) (done : Bool) (old new : List ℕ) → pick ≢ 0 → pick ≢ 1 → IsPainted (pick % 256) at (length bytes) old new → old ≡ shown pick kept → length kept.synced ≤ length kept.last
    → new ≡ shown pick (after kept (write at bytes done))
unfolding shown
shown_write_more zero kept at bytes done old new not_zero not_one paints is long = absurd (not_zero refl)
shown_write_more (suc zero) kept at bytes done old new not_zero not_one paints is long = absurd (not_one refl)
shown_write_more (suc (suc pick)) kept at bytes done old new not_zero not_one paints is long =
    let same : suc (suc pick) ≡ pick + 2 = omega arith in
    painted_more ((pick + 2) % 256) kept at bytes done old new long is (subst (λ (n : ℕ). IsPainted (n % 256) at (length bytes) old new) same paints)

-- ---- what a pick shows at a moment may be left then

pub shown_left : (pick : ℕ) (has : Noted → Bool) (first : List ℕ) (past : List Noted) → LeftAt first past (length (take_while has past)) (shown pick (replayed (at_rest first) (take_while has past)))
unfolding LeftAt
shown_left pick has first past =
    let done = take_while has past in
    let same : take (length done) past ≡ done = ap (λ (n : ℕ). take n past) (length-prefix_len has past) in
    let read = read_is_image (at_rest first) done (rests first) in
    let last = last_is_image (at_rest first) done (rests first) in
    inl (rw same (shown_is_image pick (replayed (at_rest first) done) read last))
