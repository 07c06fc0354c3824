-- Statuses that are not.
use Rattle.std.proofs.Common.{◌≡◌, ◌≢◌, ◌⊎◌, ⊎_elim, ℕ, sym, ◌∙◌}

pub neither : {P : Type 0} (r x y n : ℕ) → (r ≡ x) ⊎ (r ≡ y) → r ≡ n → n ≢ x → n ≢ y → P
neither r x y n either is first second = absurd (⊎_elim (λ a. first (sym is ∙ a)) (λ b. second (sym is ∙ b)) either)
