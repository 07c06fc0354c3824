-- The bytes of a node's marks.
use Rattle.std.proofs.Common.{◌≡◌, ℕ, ◌+◌, ◌<◌, List, [], ◌∷◌, ◌++◌, refl, sym, ap, ◌∙◌, length, take, get_or}
use Rattle.std.specs.List.{flat_map}
use Rattle.std.proofs.lemmas.List.{take_more, take_more_set}
use Rattle.std.proofs.lemmas.Grind.{flat_map-append}
use Rattle.std.specs.Prelude.{slice_set}
use Rattle.log_model.specs.declared.marks.Mark.{Mark}
use Rattle.prune_log.specs.Spelling.{mark_bytes}

-- one mark more, and its byte
pub one_more : (marks : List Mark) (bytes : List ℕ) (i byte : ℕ) (z : Mark) → i < length marks → i < length bytes → mark_bytes (get_or marks i z) ≡ byte ∷ [] →
    take i bytes ≡ flat_map mark_bytes (take i marks) → take (i + 1) (slice_set bytes i byte) ≡ flat_map mark_bytes (take (i + 1) marks)
one_more marks bytes i byte z low inside is before =
    take_more_set bytes i byte inside ∙ ap (λ (xs : List ℕ). xs ++ byte ∷ []) before
    ∙ sym (ap (flat_map mark_bytes) (take_more marks i z low) ∙ flat_map-append mark_bytes (take i marks) (get_or marks i z ∷ []) ∙ (rw is refl))
