-- The numbers of a tree, level by level.
use Rattle.std.specs.Prelude.{◌≡◌, ℕ, zero, suc, ◌-◌, ◌/◌, ◌==◌, List, [], ◌∷◌, length, map, filter, Option, Some, None, slice_get}
use Rattle.std.specs.List.{filter_map}
use Rattle.std.specs.List.Sorted.{IsPermutation, IsNonDecreasing}
use Rattle.tree_outline.specs.declared.outline.ShapeLine.{ShapeLine}
use Rattle.job_stats.specs.declared.numbers.Spread.{Spread}
use Rattle.job_stats.specs.declared.numbers.LevelNumbers.{LevelNumbers}

-- the least, the middle and the greatest of some numbers, as they stand in ascending order; of two in the middle the lower
pub record AreEnds (numbers : List ℕ) (spread : Spread) : Type 0 where
  pub sorted : List ℕ
  pub same : IsPermutation numbers sorted
  pub ascending : IsNonDecreasing sorted
  pub least : slice_get sorted 0 ≡ Some spread.least
  pub middle : slice_get sorted ((length sorted - 1) / 2) ≡ Some spread.middle
  pub most : slice_get sorted (length sorted - 1) ≡ Some spread.most

-- the same, where there are numbers
abbrev pub IsSpread : List ℕ → Option Spread → Type 0
IsSpread numbers None = numbers ≡ []
IsSpread numbers (Some spread) = AreEnds numbers spread

-- the nodes of a level
abbrev pub on_level : ℕ → List ShapeLine → List ShapeLine
on_level level lines = filter (λ line. line.level == level) lines

-- the numbers of a level: how many nodes it has, and the spread of their entries and of the radii of their regions
pub record AreNumbersOf (lines : List ShapeLine) (level : ℕ) (numbers : LevelNumbers) : Type 0 where
  pub level_is : numbers.level ≡ level
  pub nodes_are : numbers.nodes ≡ length (on_level level lines)
  pub entries_are : IsSpread (map (λ line. line.entries) (on_level level lines)) numbers.entries
  pub radii_are : IsSpread (filter_map (λ line. line.radius) (on_level level lines)) numbers.radii

-- the numbers of each level, from a level down to the leaves
abbrev pub AreLevels : List ShapeLine → ℕ → List LevelNumbers → Type 0
AreLevels lines level [] = ⊥
AreLevels lines zero (one ∷ more) = AreNumbersOf lines 0 one × (more ≡ [])
AreLevels lines (suc level) (one ∷ more) = AreNumbersOf lines (suc level) one × AreLevels lines level more
