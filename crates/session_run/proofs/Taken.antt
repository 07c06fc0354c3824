-- A status of no whole run.
use Rattle.std.proofs.Common.{◌≡◌, ◌≢◌, ◌⊎◌, inl, inr, ℕ, sym, ◌∙◌}

-- a status that is neither 0 nor 9
pub unfinished : (n k : ℕ) → n ≡ k → k ≢ 0 → k ≢ 9 → (n ≡ 0) ⊎ (n ≡ 9) → ⊥
unfinished n k is a b (inl e) = a (sym is ∙ e)
unfinished n k is a b (inr e) = b (sym is ∙ e)
