-- What is placed can be committed, and is the tree of the rows.
use Rattle.std.proofs.Common.{◌≡◌, ℕ, zero, suc, ◌+◌, ◌-◌, ◌^◌, ◌<◌, ◌≤◌, true, List, ◌∷◌, [], refl, sym, ap, ◌∙◌, arith, length, subst, length-append}
use Rattle.std.specs.Prelude.{All, Option, None, Some, IsTrue}
use Rattle.std.specs.List.{AllByRecursion}
use Rattle.std.proofs.lemmas.List.Elements.{recursion_from_All}
use Rattle.metric_laws.specs.Space.{Space, IsSpace}
use Rattle.tree_shape.specs.declared.entry.Node.{Node}
use Rattle.tree_shape.specs.declared.entry.Node.TheVariants.{Inner}
use Rattle.tree_shape.specs.declared.filling.Bounds.{Bounds}
use Rattle.tree_growth.specs.declared.rules.Group.{Group}
use Rattle.tree_shape.specs.Fill.{most_for, least_for}
use Rattle.tree_growth.specs.Bulk.{Load, built_of, groups_at, places}
use Rattle.tree_growth.proofs.Published.{places_long}
use Rattle.node_page.specs.Heads.{IsValidHead}
use Rattle.node_page.specs.Nodes.{IsValidNode}
use Rattle.node_page.specs.declared.head.Head.{Head}
use Rattle.page_store.specs.declared.staging.StagedNode.{StagedNode}
use Rattle.page_store.specs.Numbers.{numbered}
use Rattle.page_store.proofs.Published.{numbered_long, limit_small}
use Rattle.bulk_load.specs.Causes.{node_count}
use Rattle.bulk_load.specs.Postorder.{subtrees_of, is_top, last_of, below_groups, group_entries, nodes_at}
use Rattle.bulk_load.specs.Groupable.{load_of}
use Rattle.bulk_load.specs.Sets.{top_height, top_nodes, IsValidLoad, IsSetFor}
use Rattle.bulk_load.proofs.Valid.{nodes_valid}
use Rattle.bulk_load.proofs.Suited.{same_load, top_fits, height_low, nodes_few, nodes_long}

-- no head allows more rows
pub rows_few : (head : Head) (count : ℕ) → IsValidHead head → count ≤ head.limit → count ≤ 2 ^ 24
rows_few head count valid most = let l = limit_small head.limit valid.limit in omega (arith, l, most)

pub valid_load : (s : Space) (rows : List (List ℕ)) (labels : List ℕ) (fill : Bounds) (dim : ℕ) → s.dimension ≡ dim → fill.most ≡ most_for dim → fill.least ≡ least_for dim →
    All (λ p. IsTrue (s.is_point p)) rows → length labels ≡ length rows → IsValidLoad (load_of s rows labels fill)
valid_load s rows labels fill dim dimension most least is_point tagged =
    record { is_point = recursion_from_All (λ p. IsTrue (s.is_point p)) rows is_point; tagged = tagged; most = most ∙ ap most_for (sym dimension); least = least ∙ ap least_for (sym dimension) }

pub nodes_some : (l : Load) (number : ℕ → ℕ) (h : ℕ) (seed : Option ℕ) (set : List ℕ) (i : ℕ) → 1 ≤ length (nodes_at l number h seed set i)
nodes_some l number zero seed set i = omega arith
nodes_some l number (suc h) seed set i =
    let more = length-append (below_groups (λ (g : Group) (j : ℕ). nodes_at l number h (Some g.seed) g.members j) i (groups_at l (is_top seed) (suc h) set))
    (Inner (suc h) (group_entries l number seed (λ (g : Group) (j : ℕ). nodes_at l number h (Some g.seed) g.members j) i (groups_at l (is_top seed) (suc h) set)) ∷ []) in omega (arith, more)

-- the root is one of the new nodes
pub root_given : (l : Load) (number : ℕ → ℕ) (nodes : List Node) (root : ℕ) → nodes ≡ top_nodes l number → root ≡ last_of number 0 nodes → (i : ℕ) × (i < length nodes) × (root ≡ number i)
root_given l number nodes root is at =
    let some = nodes_some l number (top_height l) None (places l) 0 in
    let long = ap length is in
    (length nodes - 1, omega (arith, some, long), at ∙ ap number (let e : 0 + length nodes - 1 ≡ length nodes - 1 = omega arith in e))

module _ (l : Load) (space : IsSpace l.space) (valid : IsValidLoad l) (some : 0 < length l.points) (few : length l.points ≤ 2 ^ 24) where
  pub low : top_height l ≤ 14
  low = let h = height_low l space valid few in omega (arith, h)

  pub nodes_low : (number : ℕ → ℕ) (nodes : List Node) → nodes ≡ top_nodes l number → length nodes ≤ 2 ^ 26
  nodes_low number nodes is =
      let a = nodes_few l space valid number (top_height l) None (places l) 0 (top_fits l space valid some) in
      let b = places_long 0 (length l.points) in
      let c = ap length is in omega (arith, a, b, c, few)

  pub nodes_writable : (number : ℕ → ℕ) (nodes : List Node) (dim : ℕ) → nodes ≡ top_nodes l number → l.space.dimension ≡ dim → AllByRecursion (IsValidNode dim) nodes
  nodes_writable number nodes dim is dimension =
      subst (λ (d : ℕ). AllByRecursion (IsValidNode d) nodes) dimension
      (subst (AllByRecursion (IsValidNode l.space.dimension)) (sym is) (nodes_valid l space valid number (top_height l) None (places l) 0 low tt (top_fits l space valid some)))

-- there are as many nodes as the tree of the rows has
pub nodes_counted : (l : Load) (space : IsSpace l.space) (valid : IsValidLoad l) (number : ℕ → ℕ) (nodes : List Node) → nodes ≡ top_nodes l number → length nodes ≡ node_count l.space l.points l.tags
nodes_counted l space valid number nodes is =
    ap length is ∙ nodes_long l number (top_height l) None (places l) 0 ∙ ap (λ (x : Load). length (subtrees_of (built_of x))) (sym (same_load l space valid))

pub staged_counted : (l : Load) (space : IsSpace l.space) (valid : IsValidLoad l) (number : ℕ → ℕ) (nodes : List Node) (staged : List StagedNode) → nodes ≡ top_nodes l number → staged ≡ numbered number 0 nodes →
    length staged ≡ node_count l.space l.points l.tags
staged_counted l space valid number nodes staged is given = ap length given ∙ numbered_long number 0 nodes ∙ nodes_counted l space valid number nodes is

pub most_low : (l : Load) → IsValidLoad l → l.most ≤ 32
most_low l valid = let m = valid.most in omega (arith, m)

-- the set of all rows, by its height and its places
pub all_rows : (l : Load) → IsSpace l.space → IsValidLoad l → 0 < length l.points → (h : ℕ) (set : List ℕ) → h ≡ top_height l → set ≡ places l → IsSetFor l true h set
all_rows l space valid some h set high all =
    subst (λ (k : ℕ). IsSetFor l true k set) (sym high) (subst (IsSetFor l true (top_height l)) (sym all) (top_fits l space valid some))

pub first_few : (l : Load) → IsSpace l.space → IsValidLoad l → 0 < length l.points → length l.points ≤ 2 ^ 24 → (number : ℕ → ℕ) (h : ℕ) (set : List ℕ) (old : List Node) → h ≡ top_height l → set ≡ places l → old ≡ [] →
    length old + length (nodes_at l number h None set (length old)) ≤ 2 ^ 26
first_few l space valid some few number h set old high all none =
    subst (λ (ns : List Node). length ns + length (nodes_at l number h None set (length ns)) ≤ 2 ^ 26) (sym none)
    (subst (λ (k : ℕ). 0 + length (nodes_at l number k None set 0) ≤ 2 ^ 26) (sym high)
    (subst (λ (ks : List ℕ). 0 + length (nodes_at l number (top_height l) None ks 0) ≤ 2 ^ 26) (sym all)
    (let a = nodes_low l space valid some few number (top_nodes l number) refl in omega (arith, a))))
