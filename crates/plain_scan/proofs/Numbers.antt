-- The numbers from 0 on.
use Rattle.std.proofs.Common.{◌≡◌, ℕ, suc, ◌+◌, ◌-◌, ◌<◌, List, [], ◌∷◌, ◌++◌, ◌∙◌, ap, arith, append_assoc}
use Rattle.rows_text.specs.Meaning.{numbers_from}

-- one number more
pub numbers_next : (xs : List ℕ) (id count : ℕ) → id < count →
    (xs ++ id ∷ []) ++ numbers_from (id + 1) (count - (id + 1)) ≡ xs ++ numbers_from id (count - id)
numbers_next xs id count low =
    let same : suc (count - (id + 1)) ≡ count - id = omega arith in
    append_assoc xs (id ∷ []) (numbers_from (id + 1) (count - (id + 1))) ∙ ap (λ (n : ℕ). xs ++ numbers_from id n) same
