-- A loaded tree has at most half as many nodes as objects, unless it is a leaf.
use Rattle.std.proofs.Common.{◌≡◌, ℕ, zero, suc, ◌+◌, ◌*◌, ◌≤◌, true, List, [], ◌∷◌, refl, sym, ◌∙◌, arith, length, length-append}
use Rattle.std.specs.Prelude.{IsTrue, map, count_by}
use Rattle.std.specs.List.{AllByRecursion, flat_map}
use Rattle.metric_laws.specs.Space.{Space, IsSpace}
use Rattle.metric_laws.proofs.Published.{all_weaker, length_map}
use Rattle.tree_shape.specs.Fill.{least_for, most_for}
use Rattle.tree_shape.specs.Plain.{Branch, Object, Plain, objects_in, objects_of}
use Rattle.tree_shape.specs.Sound.{BranchCovers, IsSoundPlain, IsSoundTall}
use Rattle.tree_shape.proofs.Published.{three_at_least}
use Rattle.tree_growth.specs.Bulk.{Load, built, object_at, places, places_from}
use Rattle.tree_growth.proofs.Published.{tally, tally_is, load_keeps_objects, load_is_sound}
use Rattle.bulk_load.specs.Causes.{node_count}
use Rattle.bulk_load.specs.Postorder.{subtrees}

-- what holds of each holds of all together
both_flat : {X Y Z : Type 0} (f : X → List Y) (g : X → List Z) (xs : List X) → AllByRecursion (λ x. 2 * length (f x) + 1 ≤ length (g x)) xs →
    2 * length (flat_map f xs) + length xs ≤ length (flat_map g xs)
both_flat f g [] all = omega arith
both_flat f g (x ∷ xs) all =
    let here = all.0 in let rest = both_flat f g xs all.1 in let left = length-append (f x) (flat_map f xs) in let right = length-append (g x) (flat_map g xs) in omega arith

module _ (s : Space) (few : s.dimension ≤ 64) where
  -- below the root
  nodes_below : (h : ℕ) (t : Plain h) → IsSoundPlain s h (least_for s.dimension) t → 2 * length (subtrees h t) + 1 ≤ length (objects_in h t)
  nodes_below zero os sound = let three = three_at_least s.dimension few in let enough = sound.0.enough in omega arith
  nodes_below (suc h) bs sound =
      let three = three_at_least s.dimension few in
      let enough = sound.0.enough in
      let all = both_flat (λ (b : Branch (Plain h)). subtrees h b.below) (λ (b : Branch (Plain h)). objects_in h b.below) bs
      (all_weaker (λ (b : Branch (Plain h)). IsTrue (s.is_point b.point) × BranchCovers s h b × IsSoundPlain s h (least_for s.dimension) b.below)
      (λ (b : Branch (Plain h)). 2 * length (subtrees h b.below) + 1 ≤ length (objects_in h b.below)) bs (λ b k. nodes_below h b.below k.2) sound.1) in
      let more = length-append (flat_map (λ (b : Branch (Plain h)). subtrees h b.below) bs) (record { height = suc h; tree = bs } ∷ []) in
      omega arith

  nodes_of_tree : (h : ℕ) (t : Plain h) → IsSoundTall s (record { height = h; tree = t }) → 2 * length (subtrees h t) ≤ length (objects_in h t) + 2
  nodes_of_tree zero os sound = omega arith
  nodes_of_tree (suc h) bs sound =
      let enough = sound.0.enough in
      let all = both_flat (λ (b : Branch (Plain h)). subtrees h b.below) (λ (b : Branch (Plain h)). objects_in h b.below) bs
      (all_weaker (λ (b : Branch (Plain h)). IsTrue (s.is_point b.point) × BranchCovers s h b × IsSoundPlain s h (least_for s.dimension) b.below)
      (λ (b : Branch (Plain h)). 2 * length (subtrees h b.below) + 1 ≤ length (objects_in h b.below)) bs (λ b k. nodes_below h b.below k.2) sound.1) in
      let more = length-append (flat_map (λ (b : Branch (Plain h)). subtrees h b.below) bs) (record { height = suc h; tree = bs } ∷ []) in
      omega arith

tally_all : (xs : List Object) → tally (λ _. true) xs ≡ length xs
tally_all [] = refl
tally_all (x ∷ xs) = let rest = tally_all xs in omega arith

count_all : (xs : List Object) → count_by (λ _. true) xs ≡ length xs
count_all xs = sym (tally_is (λ _. true) xs) ∙ tally_all xs

length-places : (k n : ℕ) → length (places_from k n) ≡ n
length-places k zero = refl
length-places k (suc n) = let rest = length-places (k + 1) n in omega arith

one_at_least : (dim : ℕ) → dim ≤ 64 → 1 ≤ most_for dim
one_at_least dim few = let three = three_at_least dim few in omega arith

pub few_nodes : (s : Space) → IsSpace s → s.dimension ≤ 64 → (rows : List (List ℕ)) (labels : List ℕ) → AllByRecursion (λ p. IsTrue (s.is_point p)) rows → 2 * node_count s rows labels ≤ length rows + 2
few_nodes s space few rows labels fit =
    let l : Load = record { space = s; points = rows; tags = labels; most = most_for s.dimension; least = least_for s.dimension } in
    let tree = built s rows labels in
    let bound = nodes_of_tree s few tree.height tree.tree (load_is_sound s space rows labels fit) in
    let kept = load_keeps_objects l (one_at_least s.dimension few) (λ _. true) in
    let left = count_all (objects_of tree) in
    let right = count_all (map (object_at l) (places l)) in
    let mapped = length_map (object_at l) (places l) in
    let all = length-places 0 (length rows) in
    omega arith
