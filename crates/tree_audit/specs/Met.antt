-- Numbers that a walk has met.
use Rattle.std.specs.Prelude.{◌≡◌, ℕ, ◌+◌, ◌<◌, ◌≤◌, ◌^◌, max, ◌==◌, not, Bool, false, List, ◌++◌, length, slice_index_or}
use Rattle.std.specs.List.{AllByRecursion}
use Rattle.tree_shape.specs.Tree.{times}

-- numbers below a limit, in the order in which they were met
pub record Numbers : Type 0 where
  pub limit : ℕ
  pub met : List ℕ

-- the numbers are below the limit and none was met twice, and a flag for each number below the limit tells whether it was met
pub record IsFlagged (flags : List Bool) (met : List ℕ) : Type 0 where
  pub few : length flags < 2 ^ 32
  pub small : AllByRecursion (λ n. n < length flags) met
  pub once : (n : ℕ) → times n met ≤ 1
  pub told : (n : ℕ) → n < length flags → slice_index_or flags n false ≡ not (times n met == 0)

-- 0 was not met: so fewer numbers were met than there are below the limit, if there are any
pub record AreFewer (numbers : Numbers) : Type 0 where
  pub none : times 0 numbers.met ≡ 0
  pub fewer : length numbers.met + 1 ≤ max 1 numbers.limit

-- `more` can be met: they are below the limit, no number stands twice among them, and none was met
pub record AreNew (numbers : Numbers) (more : List ℕ) : Type 0 where
  pub within : AllByRecursion (λ n. n < numbers.limit) more
  pub once : (n : ℕ) → times n (numbers.met ++ more) ≤ 1
