-- What a file shows in which the nodes of a bulk load stand.
use Rattle.std.proofs.Common.{◌≡◌, ℕ, zero, suc, ◌+◌, ◌-◌, false, List, [], ◌∷◌, ◌++◌, refl, ap, ◌∙◌, arith, length, map, length-append}
use Rattle.std.specs.Prelude.{Option, Some}
use Rattle.std.specs.List.{AllByRecursion, flat_map}
use Rattle.tree_shape.specs.declared.entry.LeafEntry.{LeafEntry}
use Rattle.tree_shape.specs.declared.entry.Node.{Node}
use Rattle.tree_shape.specs.declared.entry.Node.TheVariants.{Leaf, Inner}
use Rattle.tree_growth.specs.declared.rules.Group.{Group}
use Rattle.tree_shape.specs.Tree.{Nodes, leaf_entries, inner_entries, pages_at, times, parent_distance}
use Rattle.tree_shape.specs.Plain.{Object, Branch, Plain, Tall, object_of, tree_at}
use Rattle.tree_growth.specs.Bulk.{Load, point_of, object_at, radius_of, groups_at, built_at}
use Rattle.tree_shape.proofs.Published.{times-append}
use Rattle.page_store.proofs.Published.{HoldsFrom, holds_append, pages_from, pages_append, trees_from, trees_append, branch_at, below_in, IsStoredAt, IsStoredEntry}
use Rattle.bulk_load.specs.Postorder.{subtrees, is_top, seed_point, leaf_entry, last_of, below_groups, group_entries, nodes_at}

pub last_is : (number : ℕ → ℕ) (i : ℕ) (xs : List Node) (x : Node) → last_of number i (xs ++ x ∷ []) ≡ number (i + length xs)
last_is number i xs x = ap number (let n = length-append xs (x ∷ []) in omega (arith, n))

abbrev pub tall_at : Nodes → ℕ → ℕ → Tall
tall_at file page k = record { height = k; tree = tree_at file k page }

-- the last node stands on the last page
pub last_stands : (new : Nodes) (number : ℕ → ℕ) (i : ℕ) (xs : List Node) (x : Node) → HoldsFrom new number i (xs ++ x ∷ []) → new (last_of number i (xs ++ x ∷ [])) ≡ Some x
last_stands new number i xs x holds = ap new (last_is number i xs x) ∙ (holds_append new number i xs (x ∷ []) holds).1.0

abbrev pub group_branch : Load → (h : ℕ) → Group → Branch (Plain h)
group_branch l h g = record { point = point_of l g.seed; radius = radius_of l (point_of l g.seed) g.members; below = built_at l false h g.members }

-- the nodes of a subtree, from a place on
pub record Shown (l : Load) (new : Nodes) (number : ℕ → ℕ) (h : ℕ) (seed : Option ℕ) (t : Plain h) (i : ℕ) (ns : List Node) : Type 0 where
  pub tree : tree_at new h (last_of number i ns) ≡ t
  pub stored : IsStoredAt l.space new h (seed_point l seed) (last_of number i ns)
  pub pages : (n : ℕ) → times n (pages_at new h (last_of number i ns)) ≡ times n (pages_from number i ns)
  pub fresh : trees_from new number i ns ≡ subtrees h t

-- the nodes of groups, from a place on
pub record GroupsShown (l : Load) (new : Nodes) (number : ℕ → ℕ) (h : ℕ) (seed : Option ℕ) (f : Group → ℕ → List Node) (i : ℕ) (gs : List Group) : Type 0 where
  pub tree : map (branch_at new h) (group_entries l number seed f i gs) ≡ map (group_branch l h) gs
  pub stored : AllByRecursion (IsStoredEntry l.space new h (seed_point l seed)) (group_entries l number seed f i gs)
  pub pages : (n : ℕ) → times n (flat_map (below_in new h) (group_entries l number seed f i gs)) ≡ times n (pages_from number i (below_groups f i gs))
  pub fresh : trees_from new number i (below_groups f i gs) ≡ flat_map (λ b. subtrees h b.below) (map (group_branch l h) gs)

pub groups_shown : (l : Load) (new : Nodes) (number : ℕ → ℕ) (h : ℕ) (seed : Option ℕ) (f : Group → ℕ → List Node) (i : ℕ) (gs : List Group) →
    ((g : Group) (j : ℕ) → HoldsFrom new number j (f g j) → Shown l new number h (Some g.seed) (built_at l false h g.members) j (f g j)) →
    HoldsFrom new number i (below_groups f i gs) → GroupsShown l new number h seed f i gs
groups_shown l new number h seed f i [] each holds = record { tree = refl; stored = tt; pages = λ n. refl; fresh = refl }
groups_shown l new number h seed f i (g ∷ gs) each holds =
    let parts = holds_append new number i (f g i) (below_groups f (i + length (f g i)) gs) holds in
    let here = each g i parts.0 in
    let rest = groups_shown l new number h seed f (i + length (f g i)) gs each parts.1 in
    record {
      tree = ap (λ (t : Plain h). record { point = point_of l g.seed; radius = radius_of l (point_of l g.seed) g.members; below = t } ∷ map (branch_at new h) (group_entries l number seed f (i + length (f g i)) gs)) here.tree
          ∙ ap (λ (r : List (Branch (Plain h))). group_branch l h g ∷ r) rest.tree;
      stored = ((refl, here.stored), rest.stored);
      pages = λ n.
          let a = times-append n (pages_at new h (last_of number i (f g i))) (flat_map (below_in new h) (group_entries l number seed f (i + length (f g i)) gs)) in
          let b = ap (times n) (pages_append number i (f g i) (below_groups f (i + length (f g i)) gs)) ∙ times-append n (pages_from number i (f g i)) (pages_from number (i + length (f g i)) (below_groups f (i + length (f g i)) gs)) in
          let p = here.pages n in
          let q = rest.pages n in omega (arith, a, b, p, q);
      fresh = trees_append new number i (f g i) (below_groups f (i + length (f g i)) gs)
          ∙ ap (λ (r : List Tall). r ++ trees_from new number (i + length (f g i)) (below_groups f (i + length (f g i)) gs)) here.fresh
          ∙ ap (λ (r : List Tall). subtrees h (built_at l false h g.members) ++ r) rest.fresh;
    }

-- the nodes of a set show its tree
pub shown : (l : Load) (new : Nodes) (number : ℕ → ℕ) (h : ℕ) (seed : Option ℕ) (set : List ℕ) (i : ℕ) → HoldsFrom new number i (nodes_at l number h seed set i) →
    Shown l new number h seed (built_at l (is_top seed) h set) i (nodes_at l number h seed set i)
shown l new number zero seed set i holds = record {
  tree = ap (λ (o : Option Node). map object_of (leaf_entries o)) at ∙ objects set;
  stored = (map (leaf_entry l seed) set, at, distances set);
  pages = λ n. ap (λ (p : ℕ). times n (p ∷ [])) here;
  fresh = ap (λ (t : Plain zero). tall t ∷ []) (ap (λ (o : Option Node). map object_of (leaf_entries o)) holds.0 ∙ objects set);
}
  where
    tall : Plain zero → Tall
    tall t = record { height = zero; tree = t }

    at : new (last_of number i (nodes_at l number zero seed set i)) ≡ Some (Leaf (map (leaf_entry l seed) set))
    at = last_stands new number i [] (Leaf (map (leaf_entry l seed) set)) holds

    here : last_of number i (nodes_at l number zero seed set i) ≡ number i
    here = ap number (let e : i + 1 - 1 ≡ i = omega arith in e)

    objects : (ks : List ℕ) → map object_of (map (leaf_entry l seed) ks) ≡ map (object_at l) ks
    objects [] = refl
    objects (k ∷ ks) = ap (λ (r : List Object). object_at l k ∷ r) (objects ks)

    distances : (ks : List ℕ) → AllByRecursion (λ (e : LeafEntry). e.parent ≡ parent_distance l.space (seed_point l seed) e.point) (map (leaf_entry l seed) ks)
    distances [] = tt
    distances (k ∷ ks) = (refl, distances ks)
shown l new number (suc h) seed set i holds =
    inner (groups_at l (is_top seed) (suc h) set) (λ g j. nodes_at l number h (Some g.seed) g.members j) (λ g j holds. shown l new number h (Some g.seed) g.members j holds) holds
  where
    inner : (gs : List Group) (f : Group → ℕ → List Node) → ((g : Group) (j : ℕ) → HoldsFrom new number j (f g j) → Shown l new number h (Some g.seed) (built_at l false h g.members) j (f g j)) →
        HoldsFrom new number i (below_groups f i gs ++ Inner (suc h) (group_entries l number seed f i gs) ∷ []) →
        Shown l new number (suc h) seed (map (group_branch l h) gs) i (below_groups f i gs ++ Inner (suc h) (group_entries l number seed f i gs) ∷ [])
    inner gs f each holds =
        let top : Node = Inner (suc h) (group_entries l number seed f i gs) in
        let parts = holds_append new number i (below_groups f i gs) (Inner (suc h) (group_entries l number seed f i gs) ∷ []) holds in
        let below = groups_shown l new number h seed f i gs each parts.0 in
        let at = last_stands new number i (below_groups f i gs) (Inner (suc h) (group_entries l number seed f i gs)) holds in
        let here = last_is number i (below_groups f i gs) (Inner (suc h) (group_entries l number seed f i gs)) in
        record {
          tree = ap (λ (o : Option Node). map (branch_at new h) (inner_entries o)) at ∙ below.tree;
          stored = (group_entries l number seed f i gs, at, below.stored);
          pages = λ n.
              let a = ap (λ (o : Option Node). times n (last_of number i (below_groups f i gs ++ Inner (suc h) (group_entries l number seed f i gs) ∷ []) ∷ flat_map (below_in new h) (inner_entries o))) at in
              let b = ap (λ (p : ℕ). times n (p ∷ flat_map (below_in new h) (group_entries l number seed f i gs))) here in
              let c = ap (times n) (pages_append number i (below_groups f i gs) (Inner (suc h) (group_entries l number seed f i gs) ∷ []))
              ∙ times-append n (pages_from number i (below_groups f i gs)) (number (i + length (below_groups f i gs)) ∷ []) in
              let d = below.pages n in omega (arith, a, b, c, d);
          fresh = trees_append new number i (below_groups f i gs) (Inner (suc h) (group_entries l number seed f i gs) ∷ [])
              ∙ ap (λ (r : List Tall). r ++ tall_at new (number (i + length (below_groups f i gs))) (suc h) ∷ []) below.fresh
              ∙ ap (λ (t : Plain (suc h)). flat_map (λ b. subtrees h b.below) (map (group_branch l h) gs) ++ record { height = suc h; tree = t } ∷ [])
              (ap (λ (o : Option Node). map (branch_at new h) (inner_entries o)) parts.1.0 ∙ below.tree);
        }
