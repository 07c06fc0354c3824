-- Discordant pairs from a place on, and numbers that stand in a list.
use Rattle.std.proofs.Common.{◌≡◌, ◌≤◌, ◌<◌, ℕ, zero, suc, ◌+◌, min, Bool, false, List, [], ◌∷◌, length, get_or, drop, refl, sym, ◌∙◌, ap, arith, add-one, inl, inr}
use Rattle.std.specs.Prelude.{◌==◌, ◌&&◌}
use Rattle.std.specs.List.{list_any}
use Rattle.std.proofs.lemmas.Bool.{cases_lt}
use Rattle.std.proofs.Math.Bool.{and-false}
use Rattle.metric_mix.specs.Permutations.{holds_below}
use Rattle.metric_mix.specs.Discordance.{row, discord}

discord_at : (i : ℕ) (a b : List ℕ) → i < length a → i < length b →
    discord (drop i a) (drop i b) ≡ row (get_or a i 0) (get_or b i 0) (drop (suc i) a) (drop (suc i) b) + discord (drop (suc i) a) (drop (suc i) b)
discord_at i [] b first second = absurd (omega arith)
discord_at i (x ∷ a) [] first second = absurd (omega arith)
discord_at zero (x ∷ a) (y ∷ b) first second = refl
discord_at (suc i) (x ∷ a) (y ∷ b) first second = discord_at i a b (omega arith) (omega arith)

pub discord_more : (i : ℕ) (a b : List ℕ) → i < length a → i < length b →
    discord (drop i a) (drop i b) ≡ row (get_or a i 0) (get_or b i 0) (drop (i + 1) a) (drop (i + 1) b) + discord (drop (i + 1) a) (drop (i + 1) b)
discord_more i a b first second = rw (add-one i) (discord_at i a b first second)

pub discord_end : (i : ℕ) (a b : List ℕ) → min (length a) (length b) ≤ i → discord (drop i a) (drop i b) ≡ 0
discord_end zero [] b past = refl
discord_end (suc i) [] b past = refl
discord_end zero (x ∷ a) [] past = refl
discord_end (suc i) (x ∷ a) [] past = ended (drop i a)
  where
    ended : (l : List ℕ) → discord l [] ≡ 0
    ended [] = refl
    ended (x ∷ l) = refl
discord_end zero (x ∷ a) (y ∷ b) past = absurd (omega arith)
discord_end (suc i) (x ∷ a) (y ∷ b) past = discord_end i a b (omega arith)

-- one number below n that is missing
pub missing : (n k : ℕ) (p : List ℕ) → k < n → list_any (λ x. x == k) p ≡ false → holds_below n p ≡ false
missing zero k p within none = absurd (omega arith)
missing (suc n) k p within none =
    elim (cases_lt k n) [
      | inl under ↦ ap (λ (b : Bool). list_any (λ x. x == n) p && b) (missing n k p under none) ∙ and-false (list_any (λ x. x == n) p)
      | inr over ↦ (let same : k ≡ n = omega arith in
          let here : list_any (λ x. x == n) p ≡ false = ap (λ (m : ℕ). list_any (λ x. x == m) p) (sym same) ∙ none in
          ap (λ (b : Bool). b && holds_below n p) here)
    ]
