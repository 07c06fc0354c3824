-- Staged nodes are for different pages.
use Rattle.std.specs.Prelude.{◌≡◌, ℕ, zero, suc, ◌<◌, List, [], ◌∷◌, length}
use Rattle.std.proofs.Common.{ap, sym, ◌∙◌, refl, arith}
use Rattle.page_store.specs.declared.staging.StagedNode.{StagedNode}
use Rattle.page_store.specs.Staging.{IsFree, AreApart}
use Rattle.shadow_root.specs.Commit.{IsStagedAs}
use Rattle.shadow_root.proofs.Torn.{AreApartAt}

free_at : (xs : List StagedNode) (page : ℕ) → IsFree xs page → (k : ℕ) (s : StagedNode) → IsStagedAs xs k s → s.page ≡ page → ⊥
free_at [] page free k s is same = absurd cc
free_at (x ∷ xs) page free zero s is same = let here : x ≡ s = cc in free.0 (ap (λ (t : StagedNode). t.page) here ∙ same)
free_at (x ∷ xs) page free (suc k) s is same = free_at xs page free.1 k s is same

pub apart_at : (xs : List StagedNode) → AreApart xs → AreApartAt xs
apart_at [] apart j k s t first second same = absurd cc
apart_at (x ∷ xs) apart zero zero s t first second same = refl
apart_at (x ∷ xs) apart zero (suc k) s t first second same =
    let here : x ≡ s = cc in absurd (free_at xs x.page apart.0 k t second (sym same ∙ ap (λ (u : StagedNode). u.page) (sym here)))
apart_at (x ∷ xs) apart (suc j) zero s t first second same =
    let here : x ≡ t = cc in absurd (free_at xs x.page apart.0 j s first (same ∙ ap (λ (u : StagedNode). u.page) (sym here)))
apart_at (x ∷ xs) apart (suc j) (suc k) s t first second same = ap suc (apart_at xs apart.1 j k s t first second same)

pub staged_below : (xs : List StagedNode) (k : ℕ) (s : StagedNode) → IsStagedAs xs k s → k < length xs
staged_below [] k s is = absurd cc
staged_below (x ∷ xs) zero s is = omega arith
staged_below (x ∷ xs) (suc k) s is = let below = staged_below xs k s is in omega (arith, below)
