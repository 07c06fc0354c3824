-- The pages of both trees of a join.
use Rattle.std.specs.Prelude.{◌⊎◌}
use Rattle.outside_io.specs.Causes.{Rose}
use Rattle.page_store.specs.Shelf.{Shelf, HoldsSame}

-- the pages of both sides hold what they held
pub record HoldBoth (left0 left1 right0 right1 : Shelf) : Type 0 where
  pub left : HoldsSame left0 left1
  pub right : HoldsSame right0 right1

-- a disk of the two sides failed
abbrev pub OneRose : Shelf → Shelf → Shelf → Shelf → Type 0
OneRose left0 left1 right0 right1 = Rose left0.faults left1.faults ⊎ Rose right0.faults right1.faults
