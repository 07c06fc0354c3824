-- The bytes from a place on, and 0 past their end.
use Rattle.std.proofs.Common.{◌≡◌, inl, inr, ℕ, ◌+◌, ◌-◌, ◌<◌, List, ◌++◌, length, take, drop, slice_index, sym, ◌∙◌, ap, arith}
use Rattle.std.specs.Prelude.{min, replicate}
use Rattle.std.proofs.lemmas.List.{length-take-le, length-drop, get_or_append_left, get_or-append_right, get_or-drop, get_or-take, get_or-replicate, get_or_past}
use Rattle.std.proofs.lemmas.Bool.{cases_lt}

pub copied_out : (file inside past : List ℕ) (at start count size : ℕ) → start ≡ min at (length file) → count ≡ min size (length file - start)
    → inside ≡ take count (drop start file) → past ≡ replicate (size - count) 0
    → (i : ℕ) → i < size → slice_index (inside ++ past) i ≡ slice_index file (at + i)
copied_out file inside past at start count size from some is zeros i within = elim (cases_lt i count) [
  | inl below ↦
      (let here : start + i ≡ at + i = omega arith in
      get_or_append_left inside past 0 i (omega (arith, long))
      ∙ ap (λ (xs : List ℕ). slice_index xs i) is
      ∙ get_or-take count (drop start file) i 0 below
      ∙ get_or-drop start file i 0
      ∙ ap (λ (m : ℕ). slice_index file m) here)
  | inr above ↦
      (get_or-append_right inside past count i 0 long above
      ∙ ap (λ (xs : List ℕ). slice_index xs (i - count)) zeros
      ∙ get_or-replicate (size - count) (i - count) 0 0 (omega arith)
      ∙ sym (get_or_past file (at + i) 0 (omega arith)))
]
  where
    long : length inside ≡ count
    long = ap length is ∙ length-take-le count (drop start file) (omega (arith, length-drop start file))
