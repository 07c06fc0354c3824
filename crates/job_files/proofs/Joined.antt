-- Texts that are joined by commas.
use Rattle.std.proofs.Common.{◌≡◌, ℕ, List, [], ◌∷◌, ◌++◌, Result, Ok, Err, OnOk, sym, ◌∙◌, ap, append_assoc}
use Rattle.std.proofs.lemmas.List.{append-nil}
use Rattle.std.specs.Prelude.{decimal}
use Rattle.rows_text.specs.Texts.{coordinates_text}
use Rattle.job_files.specs.Lines.{point_text}

-- the first coordinate, and each of the others after a comma
joined : (x : ℕ) (xs : List ℕ) → decimal x ++ coordinates_text xs ≡ point_text (x ∷ xs)
joined x [] = append-nil (decimal x)
joined x (y ∷ xs) = ap (λ (l : List ℕ). decimal x ++ 44 ∷ l) (joined y xs)

-- the same, where they were written one after the other
pub point_written : {T E : Type 0} (r : Result T E) (old middle new point : List ℕ) (x : ℕ) (xs : List ℕ) → point ≡ x ∷ xs → middle ≡ old ++ decimal x
    → OnOk r (new ≡ middle ++ coordinates_text xs) → OnOk r (new ≡ old ++ point_text point)
point_written (Err e) old middle new point x xs are first others = tt
point_written (Ok t) old middle new point x xs are first others =
    others ∙ ap (λ (l : List ℕ). l ++ coordinates_text xs) first ∙ append_assoc old (decimal x) (coordinates_text xs) ∙ ap (λ (l : List ℕ). old ++ l) (joined x xs ∙ ap point_text (sym are))
