-- A page can hold each node of a bulk load.
use Rattle.std.proofs.Common.{◌≡◌, ℕ, zero, suc, ◌+◌, ◌^◌, ◌<◌, ◌≤◌, List, [], ◌∷◌, refl, ap, arith, length, map}
use Rattle.std.specs.Prelude.{Option, Some, None, IfSome, IsTrue}
use Rattle.std.specs.List.{AllByRecursion}
use Rattle.metric_laws.specs.Space.{IsSpace, bound}
use Rattle.metric_laws.proofs.Published.{all_append, length_map}
use Rattle.tree_shape.specs.declared.entry.LeafEntry.{LeafEntry}
use Rattle.tree_shape.specs.declared.entry.InnerEntry.{InnerEntry}
use Rattle.tree_shape.specs.declared.entry.Node.{Node}
use Rattle.tree_shape.specs.declared.entry.Node.TheVariants.{Inner}
use Rattle.tree_growth.specs.declared.rules.Group.{Group}
use Rattle.tree_shape.specs.Tree.{parent_distance}
use Rattle.tree_growth.specs.Bulk.{Load, point_of, radius_of, groups_at}
use Rattle.tree_growth.proofs.Published.{point_at_place, power_one}
use Rattle.node_page.specs.Nodes.{IsValidNode}
use Rattle.bulk_load.specs.Sets.{IsValidLoad, IsSetFor, IsGroupFor}
use Rattle.bulk_load.specs.Postorder.{is_top, seed_point, leaf_entry, below_groups, group_entries, nodes_at}
use Rattle.bulk_load.proofs.Suited.{groups_fit}

module _ (l : Load) (space : IsSpace l.space) (valid : IsValidLoad l) where
  abbrev pub IsRow : ℕ → Type 0
  IsRow k = k < length l.points

  fits_at : (k : ℕ) → IsRow k → IsTrue (l.space.is_point (point_of l k))
  fits_at k low = point_at_place (λ p. IsTrue (l.space.is_point p)) l.points k valid.is_point low

  long_at : (k : ℕ) → IsRow k → length (point_of l k) ≡ l.space.dimension
  long_at k low = space.long (point_of l k) (fits_at k low)

  near_above : (seed : Option ℕ) → IfSome seed IsRow → (k : ℕ) → IsRow k → parent_distance l.space (seed_point l seed) (point_of l k) ≤ bound
  near_above None own k low = omega arith
  near_above (Some j) own k low = space.bounded (point_of l k) (point_of l j) (fits_at k low) (fits_at j own)

  near_seed : (j : ℕ) → IsRow j → (ks : List ℕ) → AllByRecursion IsRow ks → radius_of l (point_of l j) ks ≤ bound
  near_seed j own [] all = omega arith
  near_seed j own (k ∷ ks) all =
      let ih = near_seed j own ks all.1 in let here = space.bounded (point_of l k) (point_of l j) (fits_at k all.0) (fits_at j own) in omega (arith, ih, here)

  leaf_near : (seed : Option ℕ) → IfSome seed IsRow → (ks : List ℕ) → AllByRecursion IsRow ks → AllByRecursion (λ (e : LeafEntry). (length e.point ≡ l.space.dimension) × (e.parent ≤ bound)) (map (leaf_entry l seed) ks)
  leaf_near seed own [] all = tt
  leaf_near seed own (k ∷ ks) all = ((long_at k all.0, near_above seed own k all.0), leaf_near seed own ks all.1)

  entries_near : (number : ℕ → ℕ) (seed : Option ℕ) (f : Group → ℕ → List Node) (h i : ℕ) (gs : List Group) → IfSome seed IsRow → AllByRecursion (IsGroupFor l h) gs →
      AllByRecursion (λ (e : InnerEntry). (length e.point ≡ l.space.dimension) × (e.radius ≤ bound) × (e.parent ≤ bound)) (group_entries l number seed f i gs)
  entries_near number seed f h i [] own all = tt
  entries_near number seed f h i (g ∷ gs) own all =
      ((long_at g.seed all.0.0, near_seed g.seed all.0.0 g.members all.0.1.places, near_above seed own g.seed all.0.0), entries_near number seed f h (i + length (f g i)) gs own all.1)

  entries_long : (number : ℕ → ℕ) (seed : Option ℕ) (f : Group → ℕ → List Node) (i : ℕ) (gs : List Group) → length (group_entries l number seed f i gs) ≡ length gs
  entries_long number seed f i [] = refl
  entries_long number seed f i (g ∷ gs) = ap suc (entries_long number seed f (i + length (f g i)) gs)

  groups_valid : (f : Group → ℕ → List Node) (h i : ℕ) (gs : List Group) → ((g : Group) (j : ℕ) → IsGroupFor l h g → AllByRecursion (IsValidNode l.space.dimension) (f g j)) → AllByRecursion (IsGroupFor l h) gs →
      AllByRecursion (IsValidNode l.space.dimension) (below_groups f i gs)
  groups_valid f h i [] each all = tt
  groups_valid f h i (g ∷ gs) each all =
      all_append (IsValidNode l.space.dimension) (f g i) (below_groups f (i + length (f g i)) gs) (each g i all.0) (groups_valid f h (i + length (f g i)) gs each all.1)

  pub nodes_valid : (number : ℕ → ℕ) (h : ℕ) (seed : Option ℕ) (set : List ℕ) (i : ℕ) → h ≤ 14 → IfSome seed IsRow → IsSetFor l (is_top seed) h set → AllByRecursion (IsValidNode l.space.dimension) (nodes_at l number h seed set i)
  nodes_valid number zero seed set i high own k = (
    (
      (let a = length_map (leaf_entry l seed) set in let b = k.at_most in let c : l.most ^ (zero + 1) ≡ l.most ^ 1 = ap (λ (j : ℕ). l.most ^ j) (let e : zero + 1 ≡ 1 = omega arith in e) in
          let d = power_one l.most in let m = valid.most in omega (arith, a, b, c, d, m)),
      leaf_near seed own set k.places,
    ),
    tt,
  )
  nodes_valid number (suc h) seed set i high own k =
      let fit = groups_fit l space valid (is_top seed) h set k in
      let f : Group → ℕ → List Node = λ g j. nodes_at l number h (Some g.seed) g.members j in
      let long = entries_long number seed (λ (g : Group) (j : ℕ). nodes_at l number h (Some g.seed) g.members j) i (groups_at l (is_top seed) (suc h) set) in
      all_append (IsValidNode l.space.dimension) (below_groups (λ (g : Group) (j : ℕ). nodes_at l number h (Some g.seed) g.members j) i (groups_at l (is_top seed) (suc h) set))
      (Inner (suc h) (group_entries l number seed (λ (g : Group) (j : ℕ). nodes_at l number h (Some g.seed) g.members j) i (groups_at l (is_top seed) (suc h) set)) ∷ [])
      (groups_valid (λ (g : Group) (j : ℕ). nodes_at l number h (Some g.seed) g.members j) h i (groups_at l (is_top seed) (suc h) set)
      (λ g j w. nodes_valid number h (Some g.seed) g.members j (omega (arith, high)) w.0 w.1) fit.each) (
        (
          omega arith,
          high,
          (let two = fit.two in omega (arith, two, long)),
          (let few = fit.few in let m = valid.most in omega (arith, few, long, m)),
          entries_near number seed (λ (g : Group) (j : ℕ). nodes_at l number h (Some g.seed) g.members j) h i (groups_at l (is_top seed) (suc h) set) own fit.each,
        ),
        tt,
      )
