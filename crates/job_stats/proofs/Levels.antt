-- Levels that are told one after the other, from the root down.
use Rattle.std.proofs.Common.{◌≡◌, ℕ, suc, ◌+◌, ◌-◌, ◌<◌, List, [], ◌∷◌, ◌++◌, refl, sym, subst, append_assoc, arith}
use Rattle.tree_outline.specs.declared.outline.ShapeLine.{ShapeLine}
use Rattle.job_stats.specs.declared.numbers.LevelNumbers.{LevelNumbers}
use Rattle.job_stats.specs.Numbers.{AreLevels, AreNumbersOf}

-- the levels are those above `level`: with the levels from there down they are all of them
abbrev pub StandAbove : List ShapeLine → ℕ → ℕ → List LevelNumbers → Type 0
StandAbove lines height level levels = (more : List LevelNumbers) → AreLevels lines level more → AreLevels lines height (levels ++ more)

pub none_above : (lines : List ShapeLine) (height : ℕ) → StandAbove lines height (height - 0) []
none_above lines height more rest = let same : height - 0 ≡ height = omega arith in subst (λ (n : ℕ). AreLevels lines n more) same rest

-- a level with those below it
level_and_below : (lines : List ShapeLine) (level below : ℕ) (one : LevelNumbers) (more : List LevelNumbers) → level ≡ suc below
    → AreNumbersOf lines level one → AreLevels lines below more → AreLevels lines level (one ∷ more)
level_and_below lines level below one more next is rest =
    subst (λ (n : ℕ). AreLevels lines n (one ∷ more)) (sym next) (subst (λ (n : ℕ). AreNumbersOf lines n one) next is, rest)

-- one more level was told
pub one_more_above : (lines : List ShapeLine) (height above : ℕ) (levels : List LevelNumbers) (one : LevelNumbers) → above < height
    → StandAbove lines height (height - above) levels → AreNumbersOf lines (height - above) one
    → StandAbove lines height (height - (above + 1)) (levels ++ one ∷ [])
one_more_above lines height above levels one below stand is more rest =
    let next : height - above ≡ suc (height - (above + 1)) = omega arith in
    subst (λ (all : List LevelNumbers). AreLevels lines height all) (sym (append_assoc levels (one ∷ []) more))
    (stand (one ∷ more) (level_and_below lines (height - above) (height - (above + 1)) one more next is rest))

-- the leaves were told last
pub leaves_below : (lines : List ShapeLine) (height above : ℕ) (levels : List LevelNumbers) (leaves : LevelNumbers) → above ≡ height
    → StandAbove lines height (height - above) levels → AreNumbersOf lines 0 leaves → AreLevels lines height (levels ++ leaves ∷ [])
leaves_below lines height above levels leaves last stand are =
    let none : height - above ≡ 0 = omega arith in
    stand (leaves ∷ []) (subst (λ (n : ℕ). AreLevels lines n (leaves ∷ [])) (sym none) (are, refl))
