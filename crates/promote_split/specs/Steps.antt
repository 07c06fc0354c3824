-- What a step of a split's loops gives.
use Rattle.std.specs.Prelude.{ℕ, Bool, List, [], ◌∷◌, Option, Some, None, if◌then◌else◌, nat_lt}
use Rattle.tree_growth.specs.Dealing.{is_on, first_least, least_from}
use Rattle.tree_growth.specs.declared.rules.Side.{Side}

-- the element with the lesser number of two, the earlier one if they are equal
abbrev pub kept : {X : Type 0} → (X → ℕ) → Option X → X → Option X
kept f None y = Some y
kept f (Some x) y = Some (if nat_lt (f y) (f x) then y else x)

-- the same, where the further element counts only if it passes
abbrev pub kept_if : {X : Type 0} → (X → ℕ) → (X → Bool) → Option X → X → Option X
kept_if f p best x = if p x then kept f best x else best

-- the first of the least of some elements, with one found before
abbrev pub later : {X : Type 0} → (X → ℕ) → Option X → List X → Option X
later f None xs = first_least f xs
later f (Some x) xs = Some (least_from f x xs)

-- the entries on one side, in the old order, each with its distance to the promoted point
abbrev pub half_entries : {E : Type 0} → (E → ℕ → E) → Side → List ℕ → List Side → List E → List E
half_entries set on ds [] es = []
half_entries set on ds (side ∷ sides) [] = []
half_entries set on [] (side ∷ sides) (e ∷ es) = []
half_entries set on (d ∷ ds) (side ∷ sides) (e ∷ es) =
    if is_on on side then set e d ∷ half_entries set on ds sides es else half_entries set on ds sides es
