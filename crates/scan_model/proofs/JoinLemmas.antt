-- The pairs of a join, one left point after another.
use Rattle.std.proofs.Common.{◌≡◌, ℕ, ◌≤◌, List, [], ◌++◌, length, drop, sym, ◌∙◌, ap}
use Rattle.std.specs.Prelude.{filter}
use Rattle.std.proofs.lemmas.List.{append-nil, drop_all}
use Rattle.metric_laws.specs.Space.{Space}
use Rattle.scan_model.specs.declared.hit.Pair.{Pair}
use Rattle.scan_model.specs.Join.{pairs_from, is_close}

-- all right points are past
pub all_pushed : (s : Space) (left : ℕ) (p : List ℕ) (points : List (List ℕ)) (r right : ℕ) (old found : List Pair) → length points ≤ right →
    found ++ filter (is_close r) (pairs_from s left p right (drop right points)) ≡ old ++ filter (is_close r) (pairs_from s left p 0 points) →
    found ≡ old ++ filter (is_close r) (pairs_from s left p 0 points)
all_pushed s left p points r right old found past all =
    let none : drop right points ≡ [] = drop_all right points past in
    sym (append-nil found) ∙ ap (λ (ps : List (List ℕ)). found ++ filter (is_close r) (pairs_from s left p right ps)) (sym none) ∙ all
