-- The hits of a scan, put in order.
use Rattle.std.proofs.Common.{◌≡◌, ℕ, ◌≤◌, List, [], ◌++◌, ◌∷◌, length, drop, take, Equal, Less, Greater, refl, sym, ◌∙◌, ap, arith}
use Rattle.std.specs.Prelude.{filter}
use Rattle.std.specs.declared.cmp.Ordering.{Ordering}
use Rattle.std.specs.Cmp.{IsTotalOrder}
use Rattle.std.specs.Ordering.{nat_cmp, ordering_then}
use Rattle.std.specs.List.Sorted.{IsSorted, IsPermutation, IsSplitAround}
use Rattle.std.proofs.lemmas.Cmp.{nat_cmp_total, on_total, then_total, ranked}
use Rattle.std.proofs.lemmas.List.{append-nil, drop_all, take_all}
use Rattle.scan_model.specs.declared.hit.Hit.{Hit}
use Rattle.metric_laws.specs.Space.{Space}
use Rattle.scan_model.specs.Hits.{hit_cmp}
use Rattle.scan_model.specs.Ordered.{ordered}
use Rattle.scan_model.specs.Scan.{hits_from, is_within}
use Rattle.scan_model.proofs.OrderedLemmas.{sorted_is_ordered, front_in_order, length_ordered}

pub hit_cmp_total : IsTotalOrder hit_cmp
hit_cmp_total = then_total (on_total (λ h. h.dist) nat_cmp_total) (on_total (λ h. h.id) nat_cmp_total)

then_equal : (o p : Ordering) → ordering_then o p ≡ Equal → (o ≡ Equal) × (p ≡ Equal)
then_equal Less p is = cc
then_equal Equal p is = (refl, is)
then_equal Greater p is = cc

-- hits that tie are the same
pub hits_equal : (x y : Hit) → hit_cmp x y ≡ Equal → x ≡ y
hits_equal x y tie =
    let both = then_equal (nat_cmp x.dist y.dist) (nat_cmp x.id y.id) tie in
    let dists : x.dist ≡ y.dist = ranked x.dist y.dist Equal (sym both.0) in
    let ids : x.id ≡ y.id = ranked x.id y.id Equal (sym both.1) in
    λ i. record { id = ids i; dist = dists i }

-- all points are past
pub all_found : (s : Space) (points : List (List ℕ)) (q : List ℕ) (r id : ℕ) (found : List Hit) → length points ≤ id →
    found ++ filter (is_within r) (hits_from s q id (drop id points)) ≡ filter (is_within r) (hits_from s q 0 points) →
    found ≡ filter (is_within r) (hits_from s q 0 points)
all_found s points q r id found past all =
    let none : drop id points ≡ [] = drop_all id points past in
    sym (append-nil found) ∙ ap (λ (ps : List (List ℕ)). found ++ filter (is_within r) (hits_from s q id ps)) (sym none) ∙ all

-- the front that a selection leaves, sorted
pub selected_in_order : (xs front sorted : List Hit) (x : Hit) (back : List Hit) (k : ℕ) → length front ≡ k →
    IsPermutation xs (front ++ x ∷ back) → IsSplitAround hit_cmp front x back → IsPermutation front sorted → IsSorted hit_cmp sorted →
    sorted ≡ take k (ordered hit_cmp xs)
selected_in_order xs front sorted x back k long moved split again up =
    sorted_is_ordered hit_cmp_total hits_equal front sorted again up
    ∙ sym (front_in_order hit_cmp_total hits_equal xs front x back moved split)
    ∙ ap (λ (n : ℕ). take n (ordered hit_cmp xs)) long

-- all of them, sorted, where there are no more than k
pub all_in_order : (xs sorted : List Hit) (k : ℕ) → length xs ≤ k → IsPermutation xs sorted → IsSorted hit_cmp sorted →
    sorted ≡ take k (ordered hit_cmp xs)
all_in_order xs sorted k few moved up =
    sorted_is_ordered hit_cmp_total hits_equal xs sorted moved up ∙ sym (take_all k (ordered hit_cmp xs) (omega (arith, length_ordered hit_cmp xs)))
