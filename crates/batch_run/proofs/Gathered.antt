-- What several workers made, where none failed.
use Rattle.std.proofs.Common.{◌≡◌, ℕ, List, length, map, sym, ap, ◌∙◌, Option, Some, Result, Ok, slice_get}
use Rattle.std.specs.Option.{option_map}
use Rattle.std.proofs.lemmas.List.{length-map}
use Rattle.std.proofs.lemmas.Option.{slice_get-map}

module _ {X E : Type 0} (tried : List (Result X E)) (xs : List X) (all : tried ≡ map (λ x. Ok x) xs) where
  abbrev done : X → Result X E
  done x = Ok x

  pub as_many : length xs ≡ length tried
  as_many = sym (length-map xs done) ∙ sym (ap length all)

  pub done_at : (k : ℕ) (x : X) → slice_get xs k ≡ Some x → slice_get tried k ≡ Some (Ok x)
  done_at k x at = ap (λ (rs : List (Result X E)). slice_get rs k) all ∙ slice_get-map done xs k ∙ ap (λ (o : Option X). option_map done o) at
