-- Two texts in a row.
use Rattle.std.proofs.Common.{◌≡◌, ℕ, List, ◌++◌, Result, Ok, Err, ap, append_assoc, ◌∙◌}
use Rattle.std.specs.Prelude.{OnOk}

pub appended : {A E : Type 0} (r : Result A E) (old mid new a b : List ℕ) → mid ≡ old ++ a → OnOk r (new ≡ mid ++ b) → OnOk r (new ≡ old ++ (a ++ b))
appended (Ok x) old mid new a b first second = second ∙ ap (λ (l : List ℕ). l ++ b) first ∙ append_assoc old a b
appended (Err e) old mid new a b first second = tt
