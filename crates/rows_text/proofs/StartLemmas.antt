-- A load that starts, and a script that is read record by record.
use Rattle.std.proofs.Common.{◌≡◌, ◌≢◌, ◌^◌, ◌==◌, Bool, ℕ, zero, suc, List, [], ◌∷◌, ◌++◌, length, map, drop, get_or, Some, None, Result, Ok, Err, true, false, refl, sym, ◌∙◌, ap, arith}
use Rattle.std.specs.Result.{IfOk}
use Rattle.std.proofs.lemmas.List.{append_assoc, append-nil, map-append}
use Rattle.rows_text.specs.Numbers.{number_below}
use Rattle.rows_text.specs.Records.{Fields, without_blanks}
use Rattle.rows_text.specs.declared.command.Command.{Command}
use Rattle.rows_text.specs.declared.load.OpenLoad.{OpenLoad}
use Rattle.rows_text.specs.declared.state.Reading.{Reading}
use Rattle.rows_text.specs.Script.{commands_after}
use Rattle.rows_text.specs.Reading.{IsNewLoad, IsNewReading, Reads, commands_with, load_and_after, load_end, load_or_after, load_records}
use Rattle.rows_text.proofs.LoadLemmas.{end_by}

not_zero : (n : ℕ) → n ≢ 0 → (n == 0) ≡ false
not_zero zero some = absurd (some refl)
not_zero (suc n) some = grind arith

-- the command of a load whose rows are still to be read
new_end : (dimension n : ℕ) (tagged : Bool) (load : OpenLoad) (after : List Fields) → IsNewLoad dimension tagged n load →
    load_end load after ≡ end_by tagged dimension [] (record { dimension = dimension; points = [] }) None n after
new_end dimension n tagged load after new = λ i. end_by (new.tagged_is i) (new.dimension_is i) (new.tags i) (new.rows i) (new.bad i) (new.left i) after

from_new : (dimension n : ℕ) (tagged : Bool) (number : List ℕ) (after : List Fields) → number_below (2 ^ 64) number ≡ Some n → n ≢ 0 →
    ◌≡◌ {A = List Command} (end_by tagged dimension [] (record { dimension = dimension; points = [] }) None n after ∷ commands_after dimension n after)
    (load_records dimension tagged (number ∷ []) after)
from_new dimension n true number after spelt some = rw (spelt, not_zero n some) refl
from_new dimension n false number after spelt some = rw (spelt, not_zero n some) refl

pub new_load : (dimension n : ℕ) (tagged : Bool) (load : OpenLoad) (fields : Fields) (after : List Fields) → IsNewLoad dimension tagged n load → length fields ≡ 2 →
    number_below (2 ^ 64) (get_or fields 1 []) ≡ Some n → n ≢ 0 → load_and_after dimension load after ≡ load_records dimension tagged (drop 1 fields) after
new_load dimension n tagged load [] after new two spelt some = absurd (omega arith)
new_load dimension n tagged load (name ∷ []) after new two spelt some = absurd (omega arith)
new_load dimension n tagged load (name ∷ number ∷ []) after new two spelt some =
    (λ i. new_end dimension n tagged load after new i ∷ commands_after dimension (new.left i) after) ∙ from_new dimension n tagged number after spelt some
new_load dimension n tagged load (name ∷ number ∷ more ∷ others) after new two spelt some = absurd (omega arith)

-- a script with nothing read yet
pub new_reading : (dimension : ℕ) (reading : Reading) → IsNewReading dimension reading → (after : List Fields) → commands_with reading after ≡ commands_after dimension 0 after
new_reading dimension reading new after = λ i. new.commands i ++ load_or_after (new.dimension_is i) (new.load i) after

-- the records of a script, trimmed
abbrev pub all_trimmed : List Fields → List Fields
all_trimmed seen = map (λ fields. map without_blanks fields) seen

-- one record more is read
pub reads_more : (dimension : ℕ) (old new : Reading) (seen : List Fields) (fields : Fields) → Reads old new (map without_blanks fields) →
    ((after : List Fields) → commands_with old after ≡ commands_after dimension 0 (all_trimmed seen ++ after)) →
    (after : List Fields) → commands_with new after ≡ commands_after dimension 0 (all_trimmed (seen ++ fields ∷ []) ++ after)
reads_more dimension old new seen fields reads whole after =
    reads.1 after ∙ whole (map without_blanks fields ∷ after)
    ∙ ap (commands_after dimension 0) (sym (append_assoc (all_trimmed seen) (map without_blanks fields ∷ []) after))
    ∙ ap (λ (records : List Fields). commands_after dimension 0 (records ++ after)) (sym (map-append (λ (f : Fields). map without_blanks f) seen (fields ∷ [])))

pub reads_all : (dimension : ℕ) (reading : Reading) (seen all : List Fields) → seen ≡ all →
    ((after : List Fields) → commands_with reading after ≡ commands_after dimension 0 (all_trimmed seen ++ after)) →
    commands_with reading [] ≡ commands_after dimension 0 (all_trimmed all)
reads_all dimension reading seen all is whole =
    whole [] ∙ ap (commands_after dimension 0) (append-nil (all_trimmed seen)) ∙ ap (λ (records : List Fields). commands_after dimension 0 (all_trimmed records)) is

pub ok_same_by : {A B E : Type 0} (f : A → B) (r : Result A E) (x y : B) → x ≡ y → IfOk r (λ c. f c ≡ x) → IfOk r (λ c. f c ≡ y)
ok_same_by f (Ok c) x y same is = is ∙ same
ok_same_by f (Err e) x y same is = tt
