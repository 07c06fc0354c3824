-- The recorded calls that have begun, one entry after another.
use Rattle.std.specs.Prelude.{◌≡◌, ℕ, ◌+◌, ◌≤◌, ◌<◌, true, false, List, [], ◌∷◌, length, take, drop, slice_index_or}
use Rattle.std.proofs.Common.{arith, refl, sym, ap, ◌∙◌, length-drop}
use Rattle.std.proofs.lemmas.List.{nil_from_length, drop_more, take-take}
use Rattle.std.proofs.lemmas.List.Sums.{take_while-cons}
use Rattle.disk_model.specs.declared.entry.Entry.{Entry}
use Rattle.disk_model.specs.declared.entry.Kind.{Kind}
use Rattle.disk_model.specs.declared.entry.Kind.TheVariants.{Look, Sync, Write}
use Rattle.disk_model.specs.Memory.Model.{Call, write}
use Rattle.disk_model.specs.Memory.Images.{Kept, after, replayed, has_begun, begun}
use Rattle.disk_model.specs.Memory.Record.{count_of, call_of, noted_of, past_of, total}

-- the call by its own bytes
own_call : (kind : Kind) (bytes own : List ℕ) → own ≡ take (count_of kind) bytes → call_of kind own ≡ call_of kind bytes
own_call Look bytes own is = refl
own_call Sync bytes own is = refl
own_call (Write at count done) bytes own is = ap (λ (bs : List ℕ). write at bs done) (ap (λ (bs : List ℕ). take count bs) is ∙ take-take count count bytes (omega arith))

module _ (moment : ℕ) (now : Kept) (entry : Entry) (entries : List Entry) (rest : List ℕ) where
  begun_more : has_begun moment (noted_of entry rest) ≡ true
      → replayed now (begun moment (past_of (entry ∷ entries) rest)) ≡ replayed (after now (call_of entry.kind rest)) (begun moment (past_of entries (drop (count_of entry.kind) rest)))
  unfolding past_of replayed
  begun_more has = ap (replayed now) (take_while-cons (has_begun moment) (noted_of entry rest) (past_of entries (drop (count_of entry.kind) rest))) ∙ rw has refl

  begun_no_more : has_begun moment (noted_of entry rest) ≡ false → replayed now (begun moment (past_of (entry ∷ entries) rest)) ≡ now
  unfolding past_of replayed
  begun_no_more has_not = ap (replayed now) (take_while-cons (has_begun moment) (noted_of entry rest) (past_of entries (drop (count_of entry.kind) rest))) ∙ rw has_not refl

begun_none : (moment : ℕ) (now : Kept) (entries : List Entry) (rest : List ℕ) → entries ≡ [] → replayed now (begun moment (past_of entries rest)) ≡ now
unfolding past_of replayed
begun_none moment now entries rest none = ap (λ (es : List Entry). replayed now (begun moment (past_of es rest))) none

-- ---- at an index of the entries

abbrev still : ℕ → Kept → List Entry → List ℕ → Kept
still moment now entries rest = replayed now (begun moment (past_of entries rest))

module _ (moment : ℕ) (now : Kept) (all : List Entry) (i : ℕ) (rest : List ℕ) (default : Entry) where
  pub stops_at : i < length all → has_begun moment (noted_of (slice_index_or all i default) rest) ≡ false → replayed now (begun moment (past_of (drop i all) rest)) ≡ now
  stops_at below has_not = ap (λ (es : List Entry). still moment now es rest) (drop_more all i default below) ∙ begun_no_more moment now (slice_index_or all i default) (drop (i + 1) all) rest has_not

  pub goes_on_at : (count : ℕ) (own others : List ℕ) → i < length all → has_begun moment (noted_of (slice_index_or all i default) rest) ≡ true → count ≡ count_of (slice_index_or all i default).kind
      → own ≡ take count rest → others ≡ drop count rest
      → replayed (after now (call_of (slice_index_or all i default).kind own)) (begun moment (past_of (drop (i + 1) all) others)) ≡ replayed now (begun moment (past_of (drop i all) rest))
  goes_on_at count own others below has count_is own_is others_is =
      let entry = slice_index_or all i default in
      let own_by : own ≡ take (count_of entry.kind) rest = own_is ∙ ap (λ (n : ℕ). take n rest) count_is in
      let others_by : others ≡ drop (count_of entry.kind) rest = others_is ∙ ap (λ (n : ℕ). drop n rest) count_is in
      ap (λ (call : Call). still moment (after now call) (drop (i + 1) all) others) (own_call entry.kind rest own own_by)
      ∙ ap (λ (bytes : List ℕ). still moment (after now (call_of entry.kind rest)) (drop (i + 1) all) bytes) others_by
      ∙ sym (begun_more moment now entry (drop (i + 1) all) rest has)
      ∙ sym (ap (λ (es : List Entry). still moment now es rest) (drop_more all i default below))

pub ends_at : (moment : ℕ) (now : Kept) (all : List Entry) (i : ℕ) (rest : List ℕ) → length all ≤ i → replayed now (begun moment (past_of (drop i all) rest)) ≡ now
ends_at moment now all i rest past = begun_none moment now (drop i all) rest (nil_from_length (drop i all) (omega (arith, length-drop i all)))

pub total_at : (all : List Entry) (i : ℕ) (default : Entry) → i < length all → total (drop i all) ≡ count_of (slice_index_or all i default).kind + total (drop (i + 1) all)
unfolding total
total_at all i default below = ap total (drop_more all i default below)
