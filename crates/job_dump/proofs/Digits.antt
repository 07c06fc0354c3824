-- The text of a number, as a field of a script.
use Rattle.std.proofs.Common.{◌≡◌, ℕ, ◌<◌, ◌≤◌, ◌^◌, Bool, true, false, List, [], ◌∷◌, ◌++◌, Some, map, length, reverse, refl, sym, ap, ◌∙◌, arith}
use Rattle.std.specs.Prelude.{decimal}
use Rattle.std.specs.List.{AllByRecursion, list_any}
use Rattle.std.specs.Str.{all_ascii_digits}
use Rattle.std.specs.Str.Parse.{digits_value}
use Rattle.std.specs.Char.{is_ascii_digit}
use Rattle.std.specs.Int.{IsInRange}
use Rattle.std.proofs.lemmas.Bool.{and_from, and_parts, or_from, or_parts, lt-ltb, ne_eqb}
use Rattle.std.proofs.lemmas.Fmt.{decimal_is_IsNumeral, digits_decimal}
use Rattle.std.proofs.lemmas.List.{reverse-reverse}
use Rattle.std.proofs.lemmas.List.Sorted.{IsPermutation-reverse, list_any-IsPermutation}
use Rattle.std.proofs.lemmas.Str.Parse.{IsNumeralModel, numerals_by_value, tells_all_ascii_digits}
use Rattle.csv.specs.Writing.{default_writer, field_text, fields_text, needs_byte}
use Rattle.rows_text.specs.Numbers.{coordinates, number_below}
use Rattle.rows_text.specs.Records.{is_blank, skip_blanks, without_blanks}
use Rattle.rows_text.specs.Texts.{coordinates_text}

-- ---- digits

own : IsNumeralModel (λ ds. all_ascii_digits ds ≡ true) (digits_value 10)
own = numerals_by_value (λ ds. all_ascii_digits ds ≡ true) tells_all_ascii_digits

digits_all : (n : ℕ) → n < 2 ^ 64 → all_ascii_digits (decimal n) ≡ true
digits_all n low = digits_decimal own n low

-- a number's text spells the number
pub number_read : (limit n : ℕ) → n < limit → limit ≤ 2 ^ 64 → number_below limit (decimal n) ≡ Some n
number_read limit n low high =
    let small : n < 2 ^ 64 = omega arith in
    let numeral = decimal_is_IsNumeral n small in
    let some = lt-ltb 0 (length (decimal n)) numeral.0.0 in
    let all = digits_all n small in
    let value = numeral.1 in
    let below = lt-ltb n limit low in
    rw (some, all, value, below) refl

digit_range : (c : ℕ) → is_ascii_digit c ≡ true → IsInRange 48 57 c
digit_range c is = (tells_all_ascii_digits.parts c [] (and_from _ _ is refl)).0

-- a test that no digit passes
no_digit : (p : ℕ → Bool) → ((c : ℕ) → IsInRange 48 57 c → p c ≡ false) → (ds : List ℕ) → all_ascii_digits ds ≡ true → list_any p ds ≡ false
no_digit p none [] all = refl
no_digit p none (c ∷ cs) all =
    let both = and_parts _ _ all in
    or_from (p c) (list_any p cs) (none c (digit_range c both.0)) (no_digit p none cs both.1)

digit_plain : (c : ℕ) → IsInRange 48 57 c → needs_byte default_writer c ≡ false
digit_plain c range =
    let low = range.0 in
    let comma = ne_eqb c 44 (λ e. omega arith) in
    let quote = ne_eqb c 34 (λ e. omega arith) in
    let return = ne_eqb c 13 (λ e. omega arith) in
    let feed = ne_eqb c 10 (λ e. omega arith) in
    rw (comma, quote, return, feed) refl

digit_shown : (c : ℕ) → IsInRange 48 57 c → is_blank c ≡ false
digit_shown c range =
    let low = range.0 in
    let space = ne_eqb c 32 (λ e. omega arith) in
    let tab = ne_eqb c 9 (λ e. omega arith) in
    rw (space, tab) refl

-- ---- fields

-- a number needs no quotes
pub number_plain : (n : ℕ) → n < 2 ^ 64 → field_text default_writer (decimal n) ≡ decimal n
number_plain n low = let plain = no_digit (needs_byte default_writer) digit_plain (decimal n) (digits_all n low) in rw plain refl

skip_none : (xs : List ℕ) → list_any is_blank xs ≡ false → skip_blanks xs ≡ xs
skip_none [] none = refl
skip_none (x ∷ xs) none = let first = (or_parts (is_blank x) (list_any is_blank xs) none).0 in rw first refl

-- a number has no blanks at its ends
pub number_shown : (n : ℕ) → n < 2 ^ 64 → without_blanks (decimal n) ≡ decimal n
number_shown n low =
    let none = no_digit is_blank digit_shown (decimal n) (digits_all n low) in
    let back = sym (list_any-IsPermutation is_blank (decimal n) (reverse (decimal n)) (IsPermutation-reverse (decimal n))) ∙ none in
    ap (λ (l : List ℕ). reverse (skip_blanks (reverse l))) (skip_none (decimal n) none) ∙ ap reverse (skip_none (reverse (decimal n)) back) ∙ reverse-reverse (decimal n)

-- ---- coordinates

abbrev pub AreSmall : List ℕ → Type 0
AreSmall xs = AllByRecursion (λ x. x < 2 ^ 32) xs

pub point_text : (xs : List ℕ) → AreSmall xs → fields_text default_writer (map decimal xs) ≡ coordinates_text xs
unfolding fields_text
point_text [] all = refl
point_text (x ∷ xs) all =
    let low = all.0 in
    ap (λ (l : List ℕ). 44 ∷ (l ++ fields_text default_writer (map decimal xs))) (number_plain x (omega arith)) ∙ ap (λ (l : List ℕ). 44 ∷ (decimal x ++ l)) (point_text xs all.1)

pub point_read : (xs : List ℕ) → AreSmall xs → coordinates (map decimal xs) ≡ Some xs
point_read [] all = refl
point_read (x ∷ xs) all =
    let one = number_read (2 ^ 32) x all.0 (omega arith) in
    let rest = point_read xs all.1 in
    rw (one, rest) refl

pub point_shown : (xs : List ℕ) → AreSmall xs → map without_blanks (map decimal xs) ≡ map decimal xs
point_shown [] all = refl
point_shown (x ∷ xs) all =
    let low = all.0 in
    ap (λ (l : List ℕ). l ∷ map without_blanks (map decimal xs)) (number_shown x (omega arith)) ∙ ap (λ (l : List (List ℕ)). decimal x ∷ l) (point_shown xs all.1)
