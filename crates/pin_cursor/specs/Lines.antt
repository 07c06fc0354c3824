-- Lines of what waits, and lines that are tried.
use Rattle.std.specs.Prelude.{◌≡◌, ℕ, Bool, true, false, List, [], ◌∷◌, if◌then◌else◌}
use Rattle.std.specs.declared.cmp.Ordering.{Ordering}
use Rattle.std.specs.Ordering.{is_lt}
use Rattle.scan_model.specs.Laws.{Ascends}

module _ {X : Type 0} (order : X → X → Ordering) where
  -- no element is less than an earlier one
  abbrev pub IsAscending : List X → Type 0
  IsAscending xs = Ascends (λ x y. is_lt (order y x) ≡ false) xs

  -- x in front of the first element that is not less
  abbrev pub put_in : X → List X → List X
  put_in x [] = x ∷ []
  put_in x (y ∷ ys) = if is_lt (order y x) then y ∷ put_in x ys else x ∷ y ∷ ys

  -- the elements in ascending order: each is put in where it belongs
  abbrev pub line_of : List X → List X
  line_of [] = []
  line_of (x ∷ xs) = put_in x (line_of xs)

  -- the first of xs is less than the first of ys; anything comes before nothing
  abbrev pub comes_first : List X → List X → Bool
  comes_first [] ys = false
  comes_first (x ∷ xs) [] = true
  comes_first (x ∷ xs) (y ∷ ys) = is_lt (order x y)

-- a line: what waits, the least first, and how many more it has room for
pub record Lined (X : Type 0) : Type 0 where
  pub items : List X
  pub room : ℕ

-- a line that is tried: as it was handed over, and what waits now
pub record Tried (X : Type 0) : Type 0 where
  pub handed : List X
  pub waits : List X
