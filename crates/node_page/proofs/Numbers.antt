-- Numbers read from a page and written into it.
use Rattle.std.proofs.Common.{◌≡◌, ◌⊎◌, inl, inr, ℕ, zero, suc, ◌+◌, ◌*◌, ◌-◌, ◌^◌, ◌<◌, ◌≤◌, List, ◌++◌, length, take, drop, slice_index, refl, sym, ◌∙◌, ap, arith, length-append, add-zero}
use Rattle.std.proofs.lemmas.List.{length-take-le, get_or-append-add, get_or_append_left, get_or-drop, get_or-take, length-take, length-drop}
use Rattle.std.proofs.lemmas.Slice.{drop-put_mid}
use borrow.Rule.Slice.PartMut.{put_mid, post_of}
use Rattle.byteorder.specs.Endian.{big_from, big_bytes}
use Rattle.byteorder.specs.Numbers.{big_number-reads_back, length-bytes_high_first, big_from-take}
use Rattle.node_page.specs.Bytes.{number_at}

-- numbers at two places whose bytes are the same
big_shift : (i j n : ℕ) (xs ys : List ℕ) → ((k : ℕ) → k < n → slice_index xs (i + k) ≡ slice_index ys (j + k)) → big_from i n xs ≡ big_from j n ys
big_shift i j zero xs ys same = refl
big_shift i j (suc n) xs ys same =
    let here : slice_index xs i ≡ slice_index ys j = rw (← add-zero i, ← add-zero j) (same 0 (omega arith)) in
    ap (λ (b : ℕ). b * 256 ^ n + big_from (suc i) n xs) here
    ∙ ap (λ (r : ℕ). slice_index ys j * 256 ^ n + r) (big_shift (suc i) (suc j) n xs ys (λ k below. moved k below))
  where
    moved : (k : ℕ) → k < n → slice_index xs (suc i + k) ≡ slice_index ys (suc j + k)
    moved k below =
        let one : suc i + k ≡ i + (k + 1) = omega arith in
        let two : j + (k + 1) ≡ suc j + k = omega arith in
        ap (λ (m : ℕ). slice_index xs m) one ∙ same (k + 1) (omega arith) ∙ ap (λ (m : ℕ). slice_index ys m) two

-- a number keeps its value where its bytes stay
pub number_kept : (at n : ℕ) (xs ys : List ℕ) → ((k : ℕ) → at ≤ k → k < at + n → slice_index xs k ≡ slice_index ys k) → number_at at n xs ≡ number_at at n ys
unfolding number_at
number_kept at n xs ys same = big_shift at at n xs ys (λ k below. same (at + k) (omega arith) (omega arith))

put_mid_place : (at count : ℕ) (page buf : List ℕ) (j : ℕ) → at ≤ length page → j < length buf → slice_index (put_mid at count page buf) (at + j) ≡ slice_index buf j
put_mid_place at count page buf j within below =
    let front : length (take at page) ≡ at = length-take-le at page within in
    ap (λ (i : ℕ). slice_index (put_mid at count page buf) (i + j)) (sym front) ∙ get_or-append-add (take at page) (buf ++ post_of at count page) j 0 ∙ get_or_append_left buf (post_of at count page) 0 j below

-- a number that was written into a part of a page
pub number_put : (n at count x : ℕ) (page rest buf : List ℕ) → buf ≡ big_bytes n x ++ rest → at ≤ length page → x < 256 ^ n → number_at at n (put_mid at count page buf) ≡ x
unfolding number_at
number_put n at count x page rest buf is within is_point =
    let long : length buf ≡ n + length rest = ap length is ∙ length-append (big_bytes n x) rest ∙ ap (λ (m : ℕ). m + length rest) (length-bytes_high_first n x) in
    big_shift at 0 n (put_mid at count page buf) buf (λ k below. put_mid_place at count page buf k within (omega (arith, long)) ∙ ap (λ (m : ℕ). slice_index buf m) (let e : k ≡ 0 + k = omega arith in e))
    ∙ ap (big_from 0 n) is ∙ big_number-reads_back n x rest is_point

-- a number that is read from a part of a page
pub number_got : (n at count x : ℕ) (page : List ℕ) → x ≡ big_from 0 n (take count (drop at page)) → n ≤ count → at ≤ length page → x ≡ number_at at n page
unfolding number_at
number_got n at count x page is enough within =
    is ∙ big_from-take 0 n count (drop at page) (omega arith)
    ∙ big_shift 0 at n (drop at page) page (λ k below. dropped k)
  where
    dropped : (k : ℕ) → slice_index (drop at page) (0 + k) ≡ slice_index page (at + k)
    dropped k = ap (λ (m : ℕ). slice_index (drop at page) m) (let e : 0 + k ≡ k = omega arith in e) ∙ get_or-drop at page k 0

-- the other bytes of the page stay
pub others_put : (n at count x : ℕ) (page buf : List ℕ) → buf ≡ big_bytes n x ++ drop n (take count (drop at page)) → n ≡ count → at + count ≤ length page
    → (k : ℕ) → (k < at) ⊎ (at + n ≤ k) → slice_index (put_mid at count page buf) k ≡ slice_index page k
others_put n at count x page buf is same within k outside = elim outside [
  | inl below ↦
      (let front : length (take at page) ≡ at = length-take-le at page (omega arith) in
      get_or_append_left (take at page) (buf ++ post_of at count page) 0 k (omega (arith, front)) ∙ get_or-take at page k 0 below)
  | inr above ↦
      (let seam = drop-put_mid at count page buf (at + count) (omega arith) (omega arith) long in
      let there : (at + count) + (k - (at + count)) ≡ k = omega arith in
      ap (λ (m : ℕ). slice_index (put_mid at count page buf) m) (sym there)
      ∙ sym (get_or-drop (at + count) (put_mid at count page buf) (k - (at + count)) 0)
      ∙ ap (λ (xs : List ℕ). slice_index xs (k - (at + count))) seam
      ∙ get_or-drop (at + count) page (k - (at + count)) 0
      ∙ ap (λ (m : ℕ). slice_index page m) there)
]
  where
    long : length buf ≡ count
    long =
        let bytes = length-bytes_high_first n x in
        let sum = ap length is ∙ length-append (big_bytes n x) (drop n (take count (drop at page))) in
        omega (arith, bytes, sum, length-drop n (take count (drop at page)), length-take count (drop at page), length-drop at page)
