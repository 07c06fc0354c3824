-- Files made as one list.
use Rattle.std.specs.Prelude.{◌≡◌, ℕ, ◌+◌, ◌-◌, ◌<◌, max, List, ◌++◌, length, map, take, drop, replicate, slice_index}
use Rattle.std.specs.List.{range_with_len}
use Rattle.std.proofs.Common.{arith, inl, inr, refl, sym, ◌∙◌, ap, subst, zero-add, length-append, length-drop}
use Rattle.std.proofs.lemmas.List.{get_or_append_left, get_or-append_right, get_or-take, get_or-drop, get_or-replicate, get_or_past, length-take, length-replicate, ext_get_or}
use Rattle.std.proofs.lemmas.List.FromFn.{length-map-range_with_len, get_or-map-range_with_len}
use Rattle.std.proofs.lemmas.Bool.{cases_lt}
use Rattle.disk_model.specs.Disk.{Written}

-- the list of length `n` whose place `i` holds `f i`
unfoldable pub tabulated : ℕ → (ℕ → ℕ) → List ℕ
tabulated n f = map f (range_with_len 0 n)

-- the file with `bytes` at place `at`, and zeros in a gap before them
unfoldable pub overwritten : ℕ → List ℕ → List ℕ → List ℕ
overwritten at bytes file = take at (file ++ replicate at 0) ++ bytes ++ drop (at + length bytes) file

pub length-tabulated : (n : ℕ) (f : ℕ → ℕ) → length (tabulated n f) ≡ n
unfolding tabulated
length-tabulated n f = length-map-range_with_len f 0 n

pub place-tabulated : (n : ℕ) (f : ℕ → ℕ) (i : ℕ) → i < n → slice_index (tabulated n f) i ≡ f i
unfolding tabulated
place-tabulated n f i below = get_or-map-range_with_len f 0 n i i 0 below (zero-add i)

-- the part before the bytes
front : ℕ → List ℕ → List ℕ
front at file = take at (file ++ replicate at 0)

length-front : (at : ℕ) (file : List ℕ) → length (front at file) ≡ at
unfolding front
length-front at file = omega (
  arith,
  length-take at (file ++ replicate at 0),
  length-append file (replicate at 0),
  length-replicate at (let zero : ℕ = 0 in zero),
)

place-front : (at : ℕ) (file : List ℕ) (i : ℕ) → i < at → slice_index (front at file) i ≡ slice_index file i
unfolding front
place-front at file i below = get_or-take at (file ++ replicate at 0) i 0 below ∙ elim (cases_lt i (length file)) [
  | inl within ↦ get_or_append_left file (replicate at 0) 0 i within
  | inr past ↦ get_or-append_right file (replicate at 0) (length file) i 0 refl past ∙ get_or-replicate at (i - length file) 0 0
      (omega arith) ∙ sym (get_or_past file i 0 past)
]

-- the part with the bytes, and the part after them
length-behind : (at : ℕ) (bytes file : List ℕ) → length (front at file ++ bytes) ≡ at + length bytes
length-behind at bytes file = length-append (front at file) bytes ∙ ap (λ (n : ℕ). n + length bytes) (length-front at file)

pub length-overwritten : (at : ℕ) (bytes file : List ℕ) → length (overwritten at bytes file) ≡ max (length file) (at + length bytes)
unfolding overwritten front
length-overwritten at bytes file =
    omega (arith, length-behind at bytes file, length-append (front at file ++ bytes) (drop (at + length bytes) file), length-drop (at + length bytes) file)

-- the overwritten file is the file after the write
pub overwritten-written : (at : ℕ) (bytes file : List ℕ) → Written at bytes file (overwritten at bytes file)
unfolding overwritten front
overwritten-written at bytes file = record {
  size = length-overwritten at bytes file;
  inside = λ i within.
      get_or_append_left (front at file ++ bytes) tail 0 (at + i) (omega (arith, size))
      ∙ get_or-append_right (front at file) bytes at (at + i) 0 (length-front at file) (omega arith)
      ∙ ap (λ (k : ℕ). slice_index bytes k) (omega arith);
  below = λ i lt.
      get_or_append_left (front at file ++ bytes) tail 0 i (omega (arith, size)) ∙ get_or_append_left (front at file) bytes 0 i
      (omega (arith, length-front at file))
      ∙ place-front at file i lt;
  above = λ i le.
      get_or-append_right (front at file ++ bytes) tail (at + length bytes) i 0 size le ∙ get_or-drop (at + length bytes) file (i - (at + length bytes)) 0
      ∙ ap (λ (k : ℕ). slice_index file k) (omega arith);
}
  where
    tail : List ℕ
    tail = drop (at + length bytes) file

    size : length (front at file ++ bytes) ≡ at + length bytes
    size = length-behind at bytes file

-- only the overwritten file is the file after the write
pub written_is : (at : ℕ) (bytes old new : List ℕ) → Written at bytes old new → new ≡ overwritten at bytes old
written_is at bytes old new written = ext_get_or 0 new (overwritten at bytes old) (written.size ∙ sym (length-overwritten at bytes old)) (λ i below. same i)
  where
    made : Written at bytes old (overwritten at bytes old)
    made = overwritten-written at bytes old

    same : (i : ℕ) → slice_index new i ≡ slice_index (overwritten at bytes old) i
    same i = elim (cases_lt i at) [
      | inl lt ↦ written.below i lt ∙ sym (made.below i lt)
      | inr le ↦ elim (cases_lt i (at + length bytes)) [
        | inl within ↦
            let here : at + (i - at) ≡ i = omega arith in
            let k : i - at < length bytes = omega arith in
            subst (λ (j : ℕ). slice_index new j ≡ slice_index (overwritten at bytes old) j) here (written.inside (i - at) k ∙ sym (made.inside (i - at) k))
        | inr past ↦ written.above i past ∙ sym (made.above i past)
      ]
    ]
