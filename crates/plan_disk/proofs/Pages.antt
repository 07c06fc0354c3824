-- How the bytes before and the touched pages show a file.
use Rattle.std.specs.Prelude.{◌≡◌, ◌⊎◌, ℕ, ◌+◌, ◌-◌, ◌*◌, ◌<◌, ◌≤◌, true, false, cond, List, ◌++◌, Option, None, Some, IsSome, length, take, drop, slice_index, ◌==◌}
use Rattle.std.proofs.Common.{arith, refl, sym, ◌∙◌, ap, inl, inr, length-drop}
use Rattle.std.specs.Ordering.{nat_cmp}
use Rattle.std.specs.BTreeMap.{is_at}
use Rattle.std.specs.Option.{is_some}
use Rattle.std.proofs.lemmas.Grind.{common_steps}
use Rattle.std.proofs.lemmas.Bool.{cases_lt}
use Rattle.std.proofs.lemmas.Bool.Decides.{nat_tests}
use Rattle.std.proofs.lemmas.List.{length-take-le, get_or-append-add, get_or_append_left, get_or-take, get_or-drop}
use borrow.Rule.Slice.PartMut.{put_mid, post_of}
use Rattle.disk_model.specs.Disk.{Written}
use Rattle.plan_disk.specs.Patches.{Page, Patches, page_at, byte_of, Shows}

-- ---- reading

module _ (patches : Patches) (file : List ℕ) (shows : Shows patches file) (page : ℕ) where
  pub shown_touched : (bytes : Page) → Some bytes ≡ page_at patches.pages page → (i : ℕ) → i < 4096 → slice_index bytes.items i ≡ slice_index file (4096 * page + i)
  shown_touched bytes is i lt = ap (λ (own : Option Page). byte_of patches.base own page i) is ∙ shows.each page i lt

  pub shown_before : None ≡ page_at patches.pages page → (i : ℕ) → i < 4096 → slice_index patches.base (4096 * page + i) ≡ slice_index file (4096 * page + i)
  shown_before is i lt = ap (λ (own : Option Page). byte_of patches.base own page i) is ∙ shows.each page i lt

-- a buffer whose first `done` places are the file's from `at` on, after the next `count` places were filled
pub filled : (at done count : ℕ) (file buf part : List ℕ) → done ≤ length buf → length part ≡ count → ((k : ℕ) → k < done → slice_index buf k ≡ slice_index file (at + k))
    → ((k : ℕ) → k < count → slice_index part k ≡ slice_index file (at + done + k)) → (i : ℕ) → i < done + count → slice_index (put_mid done count buf part) i ≡ slice_index file (at + i)
filled at done count file buf part within long before here i lt = elim (cases_lt i done) [
  | inl below ↦ get_or_append_left (take done buf) (part ++ post_of done count buf) 0 i (omega (arith, front)) ∙ get_or-take done buf i 0 below ∙ before i below
  | inr above ↦
      let there : done + (i - done) ≡ i = omega arith in
      let inside : i - done < count = omega arith in
      ap (λ (m : ℕ). slice_index (put_mid done count buf part) m) (sym there)
      ∙ ap (λ (m : ℕ). slice_index (put_mid done count buf part) (m + (i - done))) (sym front)
      ∙ get_or-append-add (take done buf) (part ++ post_of done count buf) (i - done) 0
      ∙ get_or_append_left part (post_of done count buf) 0 (i - done) (omega (arith, long))
      ∙ here (i - done) inside
      ∙ ap (λ (m : ℕ). slice_index file m) (omega arith)
]
  where
    front : length (take done buf) ≡ done
    front = length-take-le done buf within

-- ---- what the test of a page says

pub none_of : (page : Option Page) → is_some page ≡ false → None ≡ page
none_of None empty = refl
none_of (Some bytes) empty = absurd (cc)

-- ---- the pages after a change of one of them

is_at_same : (k q : ℕ) → is_at (nat_cmp k) q ≡ (k == q)
is_at_same k q = grind (arith, common_steps, nat_tests)

-- the pages after one of them got these bytes
abbrev pub IsUpdated : List (ℕ × Page) → List (ℕ × Page) → ℕ → Page → Type 0
IsUpdated old new page bytes = (q : ℕ) → page_at new q ≡ cond (is_at (nat_cmp page) q) (Some bytes) (page_at old q)

module _ (old new : List (ℕ × Page)) (page : ℕ) (bytes : Page) (updated : IsUpdated old new page bytes) where
  -- each page is this one, or as before
  pub this_or_other : (q : ℕ) → ((q ≡ page) × (page_at new q ≡ Some bytes)) ⊎ (((q < page) ⊎ (page < q)) × (page_at new q ≡ page_at old q))
  this_or_other q = elim (cases_lt q page) [
    | inl lt ↦ inr (inl lt, updated q ∙ rw is_at_same (let no : (page == q) ≡ false = grind (arith, nat_tests) in rw no refl))
    | inr le ↦ elim (cases_lt page q) [
      | inl gt ↦ inr (inr gt, updated q ∙ rw is_at_same (let no : (page == q) ≡ false = grind (arith, nat_tests) in rw no refl))
      | inr ge ↦ inl (omega arith, updated q ∙ rw is_at_same (let yes : (page == q) ≡ true = grind (arith, nat_tests) in rw yes refl))
    ]
  ]

  pub still_paged : length bytes.items ≡ 4096 → ((q : ℕ) (own : Page) → page_at old q ≡ Some own → length own.items ≡ 4096) → (q : ℕ) (own : Page) → page_at new q ≡ Some own → length own.items ≡ 4096
  still_paged size paged q own is = elim (this_or_other q) [
    | inl (same, this) ↦ let one : Some bytes ≡ Some own = sym this ∙ is in let both : bytes ≡ own = cc in ap (λ (b : Page). length b.items) (sym both) ∙ size
    | inr (apart, other) ↦ paged q own (sym other ∙ is)
  ]

  pub still_there : (q : ℕ) → IsSome (page_at old q) → IsSome (page_at new q)
  still_there q some = elim (this_or_other q) [
    | inl (same, this) ↦ rw this refl
    | inr (apart, other) ↦ rw other some
  ]

-- a page that is touched shows what was there before
pub touched_shows : (old new : Patches) (page : ℕ) (bytes : Page) (file : List ℕ) → new.base ≡ old.base → IsUpdated old.pages new.pages page bytes → None ≡ page_at old.pages page
    → ((i : ℕ) → i < 4096 → slice_index bytes.items i ≡ slice_index old.base (4096 * page + i)) → Shows old file → Shows new file
touched_shows old new page bytes file base updated none copied shows = record {
  each = λ q i lt. elim (this_or_other old.pages new.pages page bytes updated q) [
    | inl (same, this) ↦
        ap (λ (own : Option Page). byte_of new.base own q i) this ∙ copied i lt ∙ shown_before old file shows page none i lt ∙ ap (λ (p : ℕ). slice_index file (4096 * p + i)) (sym same)
    | inr (apart, other) ↦
        ap (λ (own : Option Page). byte_of new.base own q i) other ∙ ap (λ (b : List ℕ). byte_of b (page_at old.pages q) q i) base ∙ shows.each q i lt
  ];
}

-- ---- writing

-- a part of a touched page was written
pub put_shows : (old new : Patches) (page from : ℕ) (own bytes : Page) (wrote file later : List ℕ) → new.base ≡ old.base → IsUpdated old.pages new.pages page bytes → Some own ≡ page_at old.pages page
    → from + length wrote ≤ 4096 → Written from wrote own.items bytes.items → Shows old file → Written (4096 * page + from) wrote file later → Shows new later
put_shows old new page from own bytes wrote file later base updated was within put shows written = record {
  each = λ q i lt. elim (this_or_other old.pages new.pages page bytes updated q) [
    | inl (same, this) ↦
        ap (λ (b : Option Page). byte_of new.base b q i) this ∙ here i lt ∙ ap (λ (p : ℕ). slice_index later (4096 * p + i)) (sym same)
    | inr (apart, other) ↦
        ap (λ (b : Option Page). byte_of new.base b q i) other ∙ ap (λ (b : List ℕ). byte_of b (page_at old.pages q) q i) base ∙ shows.each q i lt ∙ sym (elsewhere q i lt apart)
  ];
}
  where
    here : (i : ℕ) → i < 4096 → slice_index bytes.items i ≡ slice_index later (4096 * page + i)
    here i lt = elim (cases_lt i from) [
      | inl below ↦ put.below i below ∙ shown_touched old file shows page own was i lt ∙ sym (written.below (4096 * page + i) (omega arith))
      | inr le ↦ elim (cases_lt i (from + length wrote)) [
        | inl inside ↦
            let k : i - from < length wrote = omega arith in
            let one : from + (i - from) ≡ i = omega arith in
            let two : (4096 * page + from) + (i - from) ≡ 4096 * page + i = omega arith in
            ap (λ (m : ℕ). slice_index bytes.items m) (sym one) ∙ put.inside (i - from) k ∙ sym (written.inside (i - from) k) ∙ ap (λ (m : ℕ). slice_index later m) two
        | inr above ↦ put.above i above ∙ shown_touched old file shows page own was i lt ∙ sym (written.above (4096 * page + i) (omega arith))
      ]
    ]

    elsewhere : (q i : ℕ) → i < 4096 → (q < page) ⊎ (page < q) → slice_index later (4096 * q + i) ≡ slice_index file (4096 * q + i)
    elsewhere q i lt apart = elim apart [
      | inl less ↦ written.below (4096 * q + i) (omega arith)
      | inr more ↦ written.above (4096 * q + i) (omega arith)
    ]

-- ---- many parts, one after another

-- a file whose places are those of another
pub shows_same : (patches : Patches) (file later : List ℕ) → Shows patches file → ((i : ℕ) → slice_index later i ≡ slice_index file i) → Shows patches later
shows_same patches file later shows same = record { each = λ page i lt. shows.each page i lt ∙ sym (same (4096 * page + i)) }

-- before the first part
pub none_written : (at : ℕ) (bytes : List ℕ) (patches : Patches) (file later : List ℕ) → Shows patches file → Written at (take 0 bytes) file later → Shows patches later
none_written at bytes patches file later shows written = shows_same patches file later shows (λ i. elim (cases_lt i at) [
  | inl below ↦ written.below i below
  | inr above ↦ written.above i (omega (arith, none))
])
  where
    none : length (take 0 bytes) ≡ 0
    none = length-take-le 0 bytes (omega arith)

-- the bytes up to `end` over the bytes up to `done`
pub next_written : (at done end : ℕ) (bytes file mid later : List ℕ) → done ≤ end → end ≤ length bytes → Written at (take done bytes) file mid → Written at (take end bytes) file later
    → Written (at + done) (take (end - done) (drop done bytes)) mid later
next_written at done end bytes file mid later le within first all = record {
  size = omega (arith, first.size, all.size, front, whole, part);
  inside = λ i lt.
      let below : done + i < end = omega (arith, part) in
      let here : at + done + i ≡ at + (done + i) = omega arith in
      ap (λ (m : ℕ). slice_index later m) here ∙ all.inside (done + i) (omega (arith, whole)) ∙ get_or-take end bytes (done + i) 0 below
      ∙ sym (get_or-take (end - done) (drop done bytes) i 0 (omega arith) ∙ get_or-drop done bytes i 0);
  below = λ i lt. elim (cases_lt i at) [
    | inl less ↦ all.below i less ∙ sym (first.below i less)
    | inr more ↦
        let k : i - at < done = omega arith in
        let here : at + (i - at) ≡ i = omega arith in
        ap (λ (m : ℕ). slice_index later m) (sym here) ∙ all.inside (i - at) (omega (arith, whole)) ∙ get_or-take end bytes (i - at) 0 (omega arith)
        ∙ sym (ap (λ (m : ℕ). slice_index mid m) (sym here) ∙ first.inside (i - at) (omega (arith, front)) ∙ get_or-take done bytes (i - at) 0 k)
  ];
  above = λ i past. all.above i (omega (arith, whole, part)) ∙ sym (first.above i (omega (arith, front, part)));
}
  where
    front : length (take done bytes) ≡ done
    front = length-take-le done bytes (omega arith)

    whole : length (take end bytes) ≡ end
    whole = length-take-le end bytes within

    part : length (take (end - done) (drop done bytes)) ≡ end - done
    part = length-take-le (end - done) (drop done bytes) (omega (arith, length-drop done bytes))
