-- Steps of the choice.
use Rattle.std.proofs.Common.{◌≡◌, ℕ, ◌<◌, Bool, true, false, cond, List, ◌∷◌, refl, arith, length, map}
use Rattle.std.specs.Prelude.{filter, Option, Some, None, if◌then◌else◌}
use Rattle.metric_laws.proofs.Published.{length_map}
use Rattle.metric_laws.specs.Space.{Space}
use Rattle.tree_shape.specs.declared.entry.InnerEntry.{InnerEntry}
use Rattle.tree_growth.specs.declared.rules.Aim.{Aim}
use Rattle.tree_growth.specs.Dealing.{first_least}
use Rattle.tree_growth.specs.Insertion.{aims, chosen, excess, is_inside, is_outside, or_else, place_of}
use Rattle.tree_growth.proofs.Published.{chosen_low}
use Rattle.promote_split.specs.Steps.{kept, kept_if, later}
use Rattle.insert_path.specs.Walk.{inner_ball}

-- one more element that passes, or not
pub seen_more : {X : Type 0} (f : X → ℕ) (p : X → Bool) (best new : Option X) (x : X) (xs : List X) → new ≡ kept_if f p best x →
    later f new (filter p xs) ≡ later f best (filter p (x ∷ xs))
seen_more {X} f p best new x xs is = rw is (cases (p x) best)
  where
    cases : (b : Bool) (best : Option X) → later f (if b then kept f best x else best) (filter p xs) ≡ later f best (cond b (x ∷ filter p xs) (filter p xs))
    cases true None = refl
    cases true (Some y) = refl
    cases false None = refl
    cases false (Some y) = refl

-- what is chosen is one of the entries
pub chosen_place : (s : Space) (es : List InnerEntry) (p : List ℕ) (inside outside : Option Aim) (place : ℕ) → 0 < length es →
    inside ≡ first_least (λ a. a.dist) (filter is_inside (aims s p 0 (map inner_ball es))) → outside ≡ first_least excess (filter is_outside (aims s p 0 (map inner_ball es))) →
    place ≡ place_of (or_else inside outside) → place < length es
chosen_place s es p inside outside place some is_in is_out is =
    let n : length (map inner_ball es) ≡ length es = length_map inner_ball es in
    let low : chosen s (map inner_ball es) p < length (map inner_ball es) = chosen_low s (map inner_ball es) p (omega arith) in
    let e : place ≡ chosen s (map inner_ball es) p = rw (is, is_in, is_out) refl in
    omega arith
