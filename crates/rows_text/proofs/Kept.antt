-- Texts that grow, and keep what stood before.
use Rattle.std.proofs.Common.{◌≡◌, ℕ, zero, suc, ◌+◌, ◌<◌, ◌≤◌, List, [], ◌∷◌, ◌++◌, length, take, drop, get_or, refl, sym, ◌∙◌, ap, arith, append_assoc, length-append}
use Rattle.std.proofs.lemmas.List.{take-append-le, take_at}
use Rattle.scan_model.specs.declared.hit.Hit.{Hit}
use Rattle.rows_text.specs.Texts.{KeepsFront, tagged_line, tagged_lines}

-- the front of a front
take_shorter : (xs : List ℕ) (m n : ℕ) → m ≤ n → take m (take n xs) ≡ take m xs
take_shorter xs zero n short = refl
take_shorter xs (suc m) zero short = absurd (omega arith)
take_shorter [] (suc m) (suc n) short = refl
take_shorter (x ∷ xs) (suc m) (suc n) short = ap (λ (l : List ℕ). x ∷ l) (take_shorter xs m n (omega arith))

-- what keeps a longer text keeps its front
pub keeps_longer : (old mid new more : List ℕ) → mid ≡ old ++ more → KeepsFront mid new → KeepsFront old new
keeps_longer old mid new more longer kept =
    let long : length mid ≡ length old + length more = ap length longer ∙ length-append old more in (
      omega (arith, kept.0),
      sym (take_shorter new (length old) (length mid) (omega arith)) ∙ ap (take (length old)) kept.1 ∙ ap (take (length old)) longer ∙ take_at old more (length old) refl,
    )

-- the same, where the rest of what is to come is named
pub keeps_within : (old mid new rest all : List ℕ) → mid ++ rest ≡ old ++ all → length old ≤ length mid → KeepsFront mid new → KeepsFront old new
keeps_within old mid new rest all same short kept = (
  omega (arith, kept.0),
  sym (take_shorter new (length old) (length mid) short) ∙ ap (take (length old)) kept.1
      ∙ sym (take-append-le (length old) mid rest short) ∙ ap (take (length old)) same ∙ take_at old all (length old) refl,
)

-- one tagged line more
tagged_suc : (before : List ℕ) (hits : List Hit) (tags : List ℕ) (i : ℕ) (d : Hit) → i < length hits → length tags ≡ length hits →
    (before ++ tagged_line (get_or hits i d) (get_or tags i 0)) ++ tagged_lines (drop (suc i) hits) (drop (suc i) tags) ≡ before ++ tagged_lines (drop i hits) (drop i tags)
tagged_suc before [] tags i d low same = absurd (omega arith)
tagged_suc before (h ∷ hits) [] i d low same = absurd (omega arith)
tagged_suc before (h ∷ hits) (t ∷ tags) zero d low same = append_assoc before (tagged_line h t) (tagged_lines hits tags)
tagged_suc before (h ∷ hits) (t ∷ tags) (suc i) d low same = tagged_suc before hits tags i d (omega arith) (omega arith)

pub tagged_step : (before : List ℕ) (hits : List Hit) (tags : List ℕ) (i : ℕ) (d : Hit) → i < length hits → length tags ≡ length hits →
    (before ++ tagged_line (get_or hits i d) (get_or tags i 0)) ++ tagged_lines (drop (i + 1) hits) (drop (i + 1) tags) ≡ before ++ tagged_lines (drop i hits) (drop i tags)
tagged_step before hits tags i d low same =
    let next : i + 1 ≡ suc i = omega arith in
    ap (λ (k : ℕ). (before ++ tagged_line (get_or hits i d) (get_or tags i 0)) ++ tagged_lines (drop k hits) (drop k tags)) next ∙ tagged_suc before hits tags i d low same
