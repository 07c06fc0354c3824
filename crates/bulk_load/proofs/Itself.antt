-- The nodes of a load are a tree by themselves.
use Rattle.std.proofs.Common.{◌≡◌, ℕ, zero, suc, ◌+◌, ◌-◌, List, [], ◌∷◌, ◌++◌, refl, sym, ap, ◌∙◌, arith, length, map, subst}
use Rattle.std.specs.Prelude.{Option, Some}
use Rattle.metric_laws.specs.Lists.{IsIn}
use Rattle.tree_shape.specs.declared.entry.Node.{Node}
use Rattle.tree_shape.specs.declared.entry.Node.TheVariants.{Inner}
use Rattle.tree_growth.specs.declared.rules.Group.{Group}
use Rattle.tree_shape.specs.Tree.{times}
use Rattle.tree_growth.specs.Bulk.{Load, groups_at, places}
use Rattle.tree_shape.proofs.Published.{times-append}
use Rattle.page_store.specs.declared.staging.Placed.{Placed}
use Rattle.page_store.specs.declared.staging.StagedNode.{StagedNode}
use Rattle.page_store.specs.Numbers.{numbered}
use Rattle.page_store.specs.Staging.{pages_of}
use Rattle.page_store.specs.Succession.{StandsByItself, named_by}
use Rattle.page_store.proofs.Published.{given_in, pages_numbered, named_numbered, names_more, names_of, pages_append, pages_from}
use Rattle.bulk_load.specs.Postorder.{is_top, last_of, below_groups, group_entries, nodes_at}
use Rattle.bulk_load.specs.Sets.{top_nodes}
use Rattle.bulk_load.proofs.Committed.{root_given}
use Rattle.bulk_load.proofs.Shown.{last_is}

-- nodes whose last one is named from above name their pages, each as often as it is given
abbrev NamesItsPages : (ℕ → ℕ) → ℕ → List Node → Type 0
NamesItsPages number i ns = (k : ℕ) → times k (last_of number i ns ∷ names_of ns) ≡ times k (pages_from number i ns)

groups_name : (l : Load) (number : ℕ → ℕ) (seed : Option ℕ) (f : Group → ℕ → List Node) (i : ℕ) (gs : List Group) → ((g : Group) (j : ℕ) → NamesItsPages number j (f g j)) → (k : ℕ) →
    times k (map (λ e. e.child) (group_entries l number seed f i gs)) + times k (names_of (below_groups f i gs)) ≡ times k (pages_from number i (below_groups f i gs))
groups_name l number seed f i [] each k = refl
groups_name l number seed f i (g ∷ gs) each k =
    let here = each g i k in
    let rest = groups_name l number seed f (i + length (f g i)) gs each k in
    let a = names_more (f g i) (below_groups f (i + length (f g i)) gs) _ k refl in
    let b = ap (times k) (pages_append number i (f g i) (below_groups f (i + length (f g i)) gs)) ∙ times-append k (pages_from number i (f g i)) (pages_from number (i + length (f g i)) (below_groups f (i + length (f g i)) gs)) in
    omega (arith, here, rest, a, b)

nodes_name : (l : Load) (number : ℕ → ℕ) (h : ℕ) (seed : Option ℕ) (set : List ℕ) (i : ℕ) → NamesItsPages number i (nodes_at l number h seed set i)
nodes_name l number zero seed set i k = ap (λ (p : ℕ). times k (p ∷ [])) (ap number (let e : i + 1 - 1 ≡ i = omega arith in e))
nodes_name l number (suc h) seed set i k =
    inner (groups_at l (is_top seed) (suc h) set) (λ g j. nodes_at l number h (Some g.seed) g.members j) (λ g j. nodes_name l number h (Some g.seed) g.members j)
  where
    inner : (gs : List Group) (f : Group → ℕ → List Node) → ((g : Group) (j : ℕ) → NamesItsPages number j (f g j)) →
        times k (last_of number i (below_groups f i gs ++ Inner (suc h) (group_entries l number seed f i gs) ∷ []) ∷ names_of (below_groups f i gs ++ Inner (suc h) (group_entries l number seed f i gs) ∷ []))
        ≡ times k (pages_from number i (below_groups f i gs ++ Inner (suc h) (group_entries l number seed f i gs) ∷ []))
    inner gs f each =
        let top : Node = Inner (suc h) (group_entries l number seed f i gs) in
        let below = groups_name l number seed f i gs each k in
        let r = ap (λ (p : ℕ). times k (p ∷ [])) (last_is number i (below_groups f i gs) top) in
        let n = names_more (below_groups f i gs) (top ∷ []) _ k refl in
        let m = times-append k (map (λ e. e.child) (group_entries l number seed f i gs)) [] in
        let p = ap (times k) (pages_append number i (below_groups f i gs) (top ∷ [])) ∙ times-append k (pages_from number i (below_groups f i gs)) (number (i + length (below_groups f i gs)) ∷ []) in
        omega (arith, below, r, n, m, p)

pub by_itself : (l : Load) (number : ℕ → ℕ) (nodes : List Node) (root : ℕ) (placed : Placed) → nodes ≡ top_nodes l number → root ≡ last_of number 0 nodes →
    placed.staged ≡ numbered number 0 nodes → placed.next.root ≡ root → StandsByItself placed
by_itself l number nodes root placed is at staged at_root = record {
  root =
      let given = root_given l number nodes root is at in
      subst (IsIn placed.next.root) (sym pages)
      (subst (λ (r : ℕ). IsIn r (pages_from number 0 nodes)) (sym (at_root ∙ given.2)) (given_in number 0 given.0 nodes (omega arith) (let low = given.1 in omega (arith, low))));
  names = λ page.
      let n = ap (λ (ss : List StagedNode). times page (named_by ss)) staged ∙ ap (times page) (named_numbered number 0 nodes) in
      let p = ap (times page) pages in
      let r = ap (λ (x : ℕ). times page (x ∷ [])) (at_root ∙ at) in
      let all = subst (NamesItsPages number 0) (sym is) (nodes_name l number _ _ (places l) 0) page in
      omega (arith, n, p, r, all);
}
  where
    pages : pages_of placed.staged ≡ pages_from number 0 nodes
    pages = ap pages_of staged ∙ pages_numbered number 0 nodes
