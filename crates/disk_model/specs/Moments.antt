-- How stretches of moments combine, for several calls of a disk.
use Rattle.std.specs.Prelude.{◌≡◌, ◌⊎◌, ℕ, ◌≤◌, List, length}
use Rattle.std.proofs.Common.{arith, inl, inr, ◌∙◌, ⊎_elim}
use Rattle.std.proofs.lemmas.Bool.{cases_lt}
use Rattle.disk_model.specs.Disk.{DiskState, MayLeave, EachImage, EachImageOnce, IsOneCall, IsUnchanged, Written, Torn}

-- before the first call
pub started : (disk : DiskState) (P : List ℕ → Type 0) → ((image : List ℕ) → MayLeave disk image → P image) → EachImage disk disk P
started disk P here = record {
  later = omega arith;
  each = λ moment image from to left. now moment image from to left;
  past = λ moment image lt left. left;
}
  where
    now : (moment : ℕ) (image : List ℕ) → disk.clock ≤ moment → moment ≤ disk.clock → disk.images moment image → P image
    now moment image from to left = let same : moment ≡ disk.clock = omega arith in here image (rw same at left)

-- the same stretch, with less said of each image
pub weakened : (old new : DiskState) (P Q : List ℕ → Type 0) → EachImage old new P → ((image : List ℕ) → P image → Q image) → EachImage old new Q
weakened old new P Q run implied = record {
  later = run.later;
  each = λ moment image from to left. implied image (run.each moment image from to left);
  past = run.past;
}

-- one stretch after another
pub joined : (old mid new : DiskState) (P : List ℕ → Type 0) → EachImage old mid P → EachImage mid new P → EachImage old new P
joined old mid new P first second = record {
  later = omega (arith, first.later, second.later);
  each = λ moment image from to left. elim (cases_lt moment mid.clock) [
    | inl lt ↦ first.each moment image from (omega arith) (second.past moment image lt left)
    | inr le ↦ second.each moment image le to left
  ];
  past = λ moment image lt left. first.past moment image lt (second.past moment image (omega (arith, first.later)) left);
}

-- a stretch extended by one call; every image before and after the call has `P`
pub goes_on : (old mid new : DiskState) (P : List ℕ → Type 0) → EachImage old mid P → IsOneCall mid new →
    ((image : List ℕ) → MayLeave mid image → P image) → ((image : List ℕ) → MayLeave new image → P image)
    → EachImage old new P
goes_on old mid new P first call before here =
    joined old mid new P first (weakened mid new (λ image. MayLeave mid image ⊎ MayLeave new image) P call (λ image either.
    ⊎_elim (before image) (here image) either))

-- a stretch that only takes images away, as an opening sync does, and then a stretch in which every image has `P`
pub once : (old mid new : DiskState) (P : List ℕ → Type 0) → EachImage old mid (MayLeave old) → EachImage mid new P → EachImageOnce old new P
once old mid new P opening run = record {
  from = mid.clock;
  later = opening.later;
  within = run.later;
  before = λ moment image from lt left. opening.each moment image from (omega arith) (run.past moment image lt left);
  after = run.each;
}

-- calls that change nothing, one after another
pub then_unchanged : (old mid new : DiskState) → IsUnchanged old mid → IsUnchanged mid new → IsUnchanged old new
then_unchanged old mid new first second = record {
  same_known = second.same_known ∙ first.same_known;
  same_bytes = second.same_bytes ∙ first.same_bytes;
  same_images = λ image. (
    λ left. (first.same_images image).0 ((second.same_images image).0 left),
    λ left. (second.same_images image).1 ((first.same_images image).1 left),
  );
  time = joined old mid new (MayLeave old) first.time (weakened mid new (MayLeave mid) (MayLeave old) second.time (λ image left.
      (first.same_images image).0 left));
}

-- a write that was done is a write that might have been cut short
pub written_torn : (at : ℕ) (bytes old new : List ℕ) → Written at bytes old new → Torn at (length bytes) old new
written_torn at bytes old new written = record {
  no_shorter = omega (arith, written.size);
  no_longer = omega (arith, written.size);
  below = λ i within lt. written.below i lt;
  above = λ i within le. written.above i le;
}
