-- The counts of a walk fit 64 bits.
use Rattle.std.proofs.Common.{◌≡◌, ◌⊎◌, ⊎_elim, ℕ, zero, suc, ◌+◌, ◌*◌, ◌^◌, ◌<◌, ◌≤◌, List, [], ◌∷◌, length, get_or, sym, subst, arith}
use Rattle.std.specs.List.{AllByRecursion}
use Rattle.log_model.specs.declared.marks.Mark.{Mark}
use Rattle.log_model.specs.declared.marks.Mark.TheVariants.{Skip, Far, Near}
use Rattle.log_model.specs.declared.marks.Record.{Record}
use Rattle.job_show.specs.declared.shown.Counts.{Counts}
use Rattle.job_show.specs.Walks.{fars_in, nears_in, skips_in, with_marks}
use Rattle.job_show.specs.Steps.{AreSmall}

pub record AreBelow (marks : List Mark) : Type 0 where
  pub skips : skips_in marks ≤ length marks
  pub fars : fars_in marks ≤ length marks
  pub nears : nears_in marks ≤ length marks

pub each_below : (marks : List Mark) → AreBelow marks
each_below [] = record { skips = omega arith; fars = omega arith; nears = omega arith }
each_below (Skip ∷ marks) = let deep = each_below marks in record { skips = omega (arith, deep.skips); fars = omega (arith, deep.fars); nears = omega (arith, deep.nears) }
each_below (Far ∷ marks) = let deep = each_below marks in record { skips = omega (arith, deep.skips); fars = omega (arith, deep.fars); nears = omega (arith, deep.nears) }
each_below (Near ∷ marks) = let deep = each_below marks in record { skips = omega (arith, deep.skips); fars = omega (arith, deep.fars); nears = omega (arith, deep.nears) }

-- the counts of `n` records of at most 32 marks
pub record AreFew (n : ℕ) (counts : Counts) : Type 0 where
  pub opened : counts.opened ≤ n
  pub skips : counts.skips ≤ 32 * n
  pub fars : counts.fars ≤ 32 * n
  pub nears : counts.nears ≤ 32 * n

pub few_small : (n : ℕ) (marks : List Mark) (counts : Counts) → n < 2 ^ 32 → length marks ≤ 32 → AreFew n counts → AreSmall (with_marks marks counts)
few_small n marks counts low short few =
    let below = each_below marks in
    (omega (arith, few.opened), omega (arith, few.skips, below.skips), omega (arith, few.fars, below.fars), omega (arith, few.nears, below.nears))

few_more : (n : ℕ) (counts : Counts) → AreFew n counts → AreFew (n + 1) counts
few_more n counts few = record { opened = omega (arith, few.opened); skips = omega (arith, few.skips); fars = omega (arith, few.fars); nears = omega (arith, few.nears) }

few_with : (n : ℕ) (marks : List Mark) (counts : Counts) → length marks ≤ 32 → AreFew n counts → AreFew (n + 1) (with_marks marks counts)
few_with n marks counts short few =
    let below = each_below marks in
    record { opened = omega (arith, few.opened); skips = omega (arith, few.skips, below.skips); fars = omega (arith, few.fars, below.fars); nears = omega (arith, few.nears, below.nears) }

-- one record more
pub few_next : (n : ℕ) (marks : List Mark) (counts new : Counts) → length marks ≤ 32 → AreFew n counts → (new ≡ counts) ⊎ (new ≡ with_marks marks counts) → AreFew (n + 1) new
few_next n marks counts new short few either =
    ⊎_elim (λ same. subst (AreFew (n + 1)) (sym same) (few_more n counts few)) (λ more. subst (AreFew (n + 1)) (sym more) (few_with n marks counts short few)) either

-- record i has few marks
pub short_at : (records : List Record) (i : ℕ) (r : Record) → i < length records → r ≡ get_or records i r → AllByRecursion (λ r. length r.marks ≤ 32) records → length r.marks ≤ 32
short_at [] i r low is all = absurd (let e : ⊥ = omega arith in e)
short_at (x ∷ xs) zero r low is all = subst (λ (y : Record). length y.marks ≤ 32) (sym is) all.0
short_at (x ∷ xs) (suc i) r low is all = short_at xs i r (omega arith) is all.1
