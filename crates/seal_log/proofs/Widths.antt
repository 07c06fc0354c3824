-- The climb of the code, one level at a time.
use Rattle.std.proofs.Common.{◌≡◌, ℕ, zero, suc, ◌+◌, ◌/◌, ◌<◌, ◌≤◌, true, false, List, [], ◌∷◌, length, take, drop, ◌-◌, Option, Some, None, refl, sym, ap, ◌∙◌, arith}
use Rattle.std.proofs.lemmas.List.{take_all}
use Rattle.sha2.specs.Sha256.{sha256}
use Rattle.seal_log.specs.Digests.{Digest, digest_at}
use Rattle.seal_log.specs.Paths.{has_partner, widths_over, message_at, climbed}
use Rattle.seal_log.proofs.Shapes.{widths-one, widths-more, widths-enough, climbed-alone, climbed-pair, climbed-short}

pub widths-step : (width : ℕ) → 1 < width → widths_over width ≡ width ∷ widths_over ((width + 1) / 2)
unfolding widths_over
widths-step zero wide = absurd (omega arith)
widths-step (suc more) wide =
    widths-more more (suc more) wide ∙ ap (λ (t : List ℕ). suc more ∷ t) (widths-enough more ((suc more + 1) / 2) ((suc more + 1) / 2) (omega arith) (omega arith))

pub widths-last : (width : ℕ) → width ≤ 1 → widths_over width ≡ width ∷ []
unfolding widths_over
widths-last width few = widths-one width width few

-- at the top
climbed-done : (digest : Digest) (i : ℕ) → climbed [] i digest [] ≡ Some digest
unfolding climbed
climbed-done digest i = refl

climbed-over : (digest p : Digest) (path : List Digest) (i : ℕ) → climbed [] i digest (p ∷ path) ≡ None
unfolding climbed
climbed-over digest p path i = refl

top_alone : (width place : ℕ) → width ≤ 1 → place < width → has_partner width place ≡ false
unfolding has_partner
top_alone width place few within = only width place (omega arith) (omega arith)
  where
    only : (width place : ℕ) → width ≡ 1 → place ≡ 0 → has_partner width place ≡ false
    only width place one first = rw (one, first) refl

pub at_top : (width place : ℕ) (digest : Digest) (goal : Option Digest) → width ≤ 1 → place < width → climbed (widths_over width) place digest [] ≡ goal → Some digest ≡ goal
at_top width place digest goal few within so_far =
    sym (climbed-done digest (place / 2)) ∙ sym (climbed-alone width [] place digest [] (top_alone width place few within)) ∙ ap (λ (t : List ℕ). climbed t place digest []) (sym (widths-last width few)) ∙ so_far

pub left_over : (width place : ℕ) (digest p : Digest) (path : List Digest) (goal : Option Digest) → width ≤ 1 → place < width → climbed (widths_over width) place digest (p ∷ path) ≡ goal → None ≡ goal
left_over width place digest p path goal few within so_far =
    sym (climbed-over digest p path (place / 2)) ∙ sym (climbed-alone width [] place digest (p ∷ path) (top_alone width place few within))
    ∙ ap (λ (t : List ℕ). climbed t place digest (p ∷ path)) (sym (widths-last width few)) ∙ so_far

-- ---- what a step says, for whatever widths are above

pub step_pair : (width place : ℕ) (digest : Digest) (path : List Digest) (above : List ℕ) → 1 ≤ length path → has_partner width place ≡ true
    → climbed (width ∷ above) place digest path ≡ climbed above (place / 2) (sha256 (message_at place digest (digest_at path 0))) (take (length path - 1) (drop 1 path))
step_pair width place digest [] above some has = absurd (omega arith)
step_pair width place digest (p ∷ path) above some has =
    climbed-pair width above place digest p path has ∙ ap (climbed above (place / 2) (sha256 (message_at place digest p))) (sym (take_all (length (p ∷ path) - 1) path (omega arith)))

pub step_short : (width place : ℕ) (digest : Digest) (path : List Digest) (above : List ℕ) → length path < 1 → has_partner width place ≡ true → climbed (width ∷ above) place digest path ≡ None
step_short width place digest [] above none has = climbed-short width above place digest has
step_short width place digest (p ∷ path) above none has = absurd (omega arith)

-- the widths above the code's width
pub goes_up : (width place : ℕ) (digest up : Digest) (path rest : List Digest) (goal : Option Digest) → 1 < width
    → ((above : List ℕ) → climbed (width ∷ above) place digest path ≡ climbed above (place / 2) up rest) → climbed (widths_over width) place digest path ≡ goal
    → climbed (widths_over ((width + 1) / 2)) (place / 2) up rest ≡ goal
goes_up width place digest up path rest goal wide step so_far =
    sym (step (widths_over ((width + 1) / 2))) ∙ ap (λ (t : List ℕ). climbed t place digest path) (sym (widths-step width wide)) ∙ so_far

pub goes_nowhere : (width place : ℕ) (digest : Digest) (path : List Digest) (goal : Option Digest) → 1 < width
    → ((above : List ℕ) → climbed (width ∷ above) place digest path ≡ None) → climbed (widths_over width) place digest path ≡ goal → None ≡ goal
goes_nowhere width place digest path goal wide step so_far =
    sym (step (widths_over ((width + 1) / 2))) ∙ ap (λ (t : List ℕ). climbed t place digest path) (sym (widths-step width wide)) ∙ so_far

pub at_top_of : (width place : ℕ) (digest : Digest) (path : List Digest) (goal : Option Digest) → length path < 1 → width ≤ 1 → place < width → climbed (widths_over width) place digest path ≡ goal → Some digest ≡ goal
at_top_of width place digest [] goal none few within so_far = at_top width place digest goal few within so_far
at_top_of width place digest (p ∷ path) goal none few within so_far = absurd (omega arith)

pub left_over_of : (width place : ℕ) (digest : Digest) (path : List Digest) (goal : Option Digest) → 1 ≤ length path → width ≤ 1 → place < width → climbed (widths_over width) place digest path ≡ goal → None ≡ goal
left_over_of width place digest [] goal some few within so_far = absurd (omega arith)
left_over_of width place digest (p ∷ path) goal some few within so_far = left_over width place digest p path goal few within so_far
