-- The nodes of a bulk load: children before their parent, in order of groups.
use Rattle.std.specs.Prelude.{ℕ, zero, suc, ◌+◌, ◌-◌, Bool, true, false, List, [], ◌∷◌, ◌++◌, length, map, Option, Some, None, slice_index_or}
use Rattle.std.specs.List.{flat_map}
use Rattle.tree_shape.specs.declared.entry.LeafEntry.{LeafEntry}
use Rattle.tree_shape.specs.declared.entry.InnerEntry.{InnerEntry}
use Rattle.tree_shape.specs.declared.entry.Node.{Node}
use Rattle.tree_shape.specs.declared.entry.Node.TheVariants.{Leaf, Inner}
use Rattle.tree_growth.specs.declared.rules.Group.{Group}
use Rattle.tree_shape.specs.Tree.{parent_distance}
use Rattle.tree_shape.specs.Plain.{Plain, Tall}
use Rattle.tree_growth.specs.Bulk.{Load, point_of, radius_of, groups_at}

-- the subtrees of a tree, children before their parent
abbrev pub subtrees : (h : ℕ) → Plain h → List Tall
subtrees zero t = record { height = 0; tree = t } ∷ []
subtrees (suc h) t = flat_map (λ b. subtrees h b.below) t ++ record { height = suc h; tree = t } ∷ []

abbrev pub subtrees_of : Tall → List Tall
subtrees_of t = subtrees t.height t.tree

-- the set of the root has no seed
abbrev pub is_top : Option ℕ → Bool
is_top None = true
is_top (Some k) = false

-- the routing point above the set of a seed
abbrev pub seed_point : Load → Option ℕ → Option (List ℕ)
seed_point l None = None
seed_point l (Some k) = Some (point_of l k)

-- the entry of a row in the leaf of a seed's set
abbrev pub leaf_entry : Load → Option ℕ → ℕ → LeafEntry
leaf_entry l seed k = record {
  id = k;
  tag = slice_index_or l.tags k 0;
  parent = parent_distance l.space (seed_point l seed) (point_of l k);
  point = point_of l k;
}

-- the entry of a group, whose node stands on a page, in the node of a seed's set
abbrev pub group_entry : Load → Option ℕ → Group → ℕ → InnerEntry
group_entry l seed g page =
    record {
      child = page;
      radius = radius_of l (point_of l g.seed) g.members;
      parent = parent_distance l.space (seed_point l seed) (point_of l g.seed);
      point = point_of l g.seed;
    }

-- the number of the last of the nodes `ns`, which begin at place `i`
abbrev pub last_of : (ℕ → ℕ) → ℕ → List Node → ℕ
last_of number i ns = number (i + length ns - 1)

-- the nodes of groups, one group after another, where f gives those of a group from a place on
abbrev pub below_groups : (Group → ℕ → List Node) → ℕ → List Group → List Node
below_groups f i [] = []
below_groups f i (g ∷ gs) = f g i ++ below_groups f (i + length (f g i)) gs

-- the entries of groups
abbrev pub group_entries : Load → (ℕ → ℕ) → Option ℕ → (Group → ℕ → List Node) → ℕ → List Group → List InnerEntry
group_entries l number seed f i [] = []
group_entries l number seed f i (g ∷ gs) = group_entry l seed g (last_of number i (f g i)) ∷ group_entries l number seed f (i + length (f g i)) gs

-- the nodes of a seed's set at a level, from a place on, where each place has a page; the set's own node is the last
abbrev pub nodes_at : Load → (ℕ → ℕ) → (h : ℕ) → Option ℕ → List ℕ → ℕ → List Node
nodes_at l number zero seed set i = Leaf (map (leaf_entry l seed) set) ∷ []
nodes_at l number (suc h) seed set i =
    let gs = groups_at l (is_top seed) (suc h) set in
    let f = λ (g : Group) (j : ℕ). nodes_at l number h (Some g.seed) g.members j in
    below_groups f i gs ++ Inner (suc h) (group_entries l number seed f i gs) ∷ []
