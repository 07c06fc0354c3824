-- Where two lists of answers differ.
use Rattle.std.proofs.Common.{◌≡◌, ℕ, zero, suc, ◌<◌, ◌≤◌, List, [], ◌∷◌, refl, arith, length, drop, Some}
use Rattle.scan_model.specs.declared.hit.Hit.{Hit}
use Rattle.log_verify.specs.declared.faults.Verdict.TheVariants.{WrongAnswer}
use Rattle.log_verify.specs.Judged.{first_difference}

drop_nil : (i : ℕ) → drop {A = Hit} i [] ≡ []
drop_nil zero = refl
drop_nil (suc i) = refl

pub difference_short : (i j : ℕ) (xs ys : List Hit) → i < length xs → length ys ≤ i → first_difference j (drop i xs) (drop i ys) ≡ Some (WrongAnswer j)
difference_short i j [] ys low short = absurd (omega arith)
difference_short zero j (x ∷ xs) [] low short = refl
difference_short zero j (x ∷ xs) (y ∷ ys) low short = absurd (omega arith)
difference_short (suc i) j (x ∷ xs) [] low short = rw drop_nil at (difference_short i j xs [] (omega arith) (omega arith))
difference_short (suc i) j (x ∷ xs) (y ∷ ys) low short = difference_short i j xs ys (omega arith) (omega arith)

pub difference_long : (i j : ℕ) (xs ys : List Hit) → length xs ≤ i → i < length ys → first_difference j (drop i xs) (drop i ys) ≡ Some (WrongAnswer j)
difference_long i j xs [] long low = absurd (omega arith)
difference_long zero j [] (y ∷ ys) long low = refl
difference_long zero j (x ∷ xs) (y ∷ ys) long low = absurd (omega arith)
difference_long (suc i) j [] (y ∷ ys) long low = rw drop_nil at (difference_long i j [] ys (omega arith) (omega arith))
difference_long (suc i) j (x ∷ xs) (y ∷ ys) long low = difference_long i j xs ys (omega arith) (omega arith)
