-- What a queue gives first.
use Rattle.std.specs.Prelude.{◌≡◌, false, List}
use Rattle.std.specs.declared.cmp.Ordering.{Ordering}
use Rattle.std.specs.Ordering.{is_lt}
use Rattle.metric_laws.specs.Lists.{IsIn}

-- x is one of the list, and none of the list comes before it
pub record IsLeast {X : Type 0} (order : X → X → Ordering) (x : X) (xs : List X) : Type 0 where
  pub among : IsIn x xs
  pub least : (y : X) → IsIn y xs → is_lt (order y x) ≡ false
