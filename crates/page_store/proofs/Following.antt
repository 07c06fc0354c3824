-- How the tree of a commit stands on its pages.
use Rattle.std.proofs.Common.{◌≡◌, ◌⊎◌, ℕ, ◌+◌, ◌≤◌, Bool, true, false, List, [], ◌∷◌, ◌++◌, map, refl, sym, ap, subst, ◌∙◌, inl, inr, arith, Some}
use Rattle.std.specs.Prelude.{◌==◌, if◌then◌else◌}
use Rattle.std.specs.List.{AllByRecursion, range_with_len}
use Rattle.std.proofs.lemmas.Bool.Decides.{nat_tests}
use Rattle.metric_laws.specs.Lists.{IsIn}
use Rattle.metric_laws.proofs.Published.{all_in, all_weaker, all_append, all_filter, flat_map-append, in-append_right, in-filter, in-map, length_map}
use Rattle.tree_shape.specs.declared.live.Live.{Live}
use Rattle.tree_shape.specs.declared.entry.Node.{Node}
use Rattle.tree_shape.specs.Tree.{Nodes, IsNodePage, times}
use Rattle.tree_shape.proofs.Published.{times-append}
use Rattle.page_store.specs.declared.staging.Placed.{Placed}
use Rattle.page_store.specs.declared.staging.StagedNode.{StagedNode}
use Rattle.page_store.specs.Laws.{AreNew, PlacementsAreNew, TreesGoOn, NewTreesStand}
use Rattle.page_store.specs.Numbers.{number_at}
use Rattle.page_store.specs.Reached.{IsReached, StandsOnPages, named_in}
use Rattle.page_store.specs.Staging.{IsFree, pages_of}
use Rattle.page_store.specs.Succession.{TakesPlace, IsWritten, named_by, without}
use Rattle.page_store.proofs.Given.{free_none, given_once, number_up, pages_range}
use Rattle.page_store.proofs.Named.{in_node, with_left_pages, without_named}
use Rattle.page_store.proofs.Standing.{pages_from, times_in}
use Rattle.page_store.proofs.Whole.{reached_in, root_apart, stands_named}

-- ---- what a written file shows

stand_named : (new : Nodes) (staged : List StagedNode) → AllByRecursion (λ s. new s.page ≡ Some s.node) staged → named_in new (pages_of staged) ≡ named_by staged
stand_named new [] all = refl
stand_named new (s ∷ staged) all = rw (all.0, stand_named new staged all.1) refl

-- no node is staged for a page that is none of theirs
pub none_staged : (staged : List StagedNode) (page : ℕ) → (IsIn page (pages_of staged) → ⊥) → IsFree staged page
none_staged [] page out = tt
none_staged (s ∷ staged) page out = (λ same. out (inl (sym same)), none_staged staged page (λ i. out (inr i)))

stay_named : (old new : Nodes) (pages : List ℕ) → ((page : ℕ) → IsIn page pages → new page ≡ old page) → named_in new pages ≡ named_in old pages
stay_named old new [] same = refl
stay_named old new (page ∷ pages) same = rw (same page (inl refl), stay_named old new pages (λ p i. same p (inr i))) refl

-- ---- the next tree

pub new_stands : NewTreesStand
new_stands old new tree placed itself are written = record {
  root = itself.root;
  within = are.within;
  once = are.once;
  named = λ page.
      root_apart placed.next.root page (times page (named_in new (pages_of placed.staged))) (times page (pages_of placed.staged))
      (let n = ap (times page) (stand_named new placed.staged written.stand) in let i = itself.names page in omega arith) (are.once page);
}

module _ (old new : Nodes) (t : Live) (tree : List ℕ) (placed : Placed) (stands : StandsOnPages old t tree) (takes : TakesPlace old t placed) (are : AreNew placed.next tree (pages_of placed.staged)) (written : IsWritten old tree placed.staged new) where
  abbrev fresh : List ℕ
  fresh = pages_of placed.staged

  abbrev stay : List ℕ
  stay = without placed.left tree

  left_among : (k : ℕ) → times k placed.left ≤ times k tree
  left_among k = cases (times k placed.left == 0) refl
    where
      cases : (b : Bool) → (times k placed.left == 0) ≡ b → times k placed.left ≤ times k tree
      cases true e = let z : times k placed.left ≡ 0 = grind (arith, nat_tests) in omega arith
      cases false e =
          let some : 1 ≤ times k placed.left = grind (arith, nat_tests) in
          let r = reached_in old t.root tree (stands_named old t tree stands) k (all_in (IsReached old t.root) placed.left k takes.left (times_in k placed.left some)) in
          let o = takes.once k in
          omega arith

  apart : (k : ℕ) → times k stay + times k fresh ≤ 1
  apart k = cases (times k fresh == 0) refl
    where
      w : times k stay + times k placed.left ≡ times k tree
      w = with_left_pages placed.left tree k (takes.once k) (left_among k) (stands.once k)

      cases : (b : Bool) → (times k fresh == 0) ≡ b → times k stay + times k fresh ≤ 1
      cases true e = let z : times k fresh ≡ 0 = grind (arith, nat_tests) in let o = stands.once k in let h = w in omega arith
      cases false e =
          let some : 1 ≤ times k fresh = grind (arith, nat_tests) in
          let o = are.once k in
          let h = w in
          low (times k tree == 0) refl o h
        where
          low : (b : Bool) → (times k tree == 0) ≡ b → times k fresh ≤ 1 → times k stay + times k placed.left ≡ times k tree → times k stay + times k fresh ≤ 1
          low true z o h = let n : times k tree ≡ 0 = grind (arith, nat_tests) in omega arith
          low false z o h =
              absurd (are.outside k (times_in k fresh (let some : 1 ≤ times k fresh = grind (arith, nat_tests) in some)) (times_in k tree (let some : 1 ≤ times k tree = grind (arith, nat_tests) in some)))

  stay_same : (page : ℕ) → IsIn page stay → new page ≡ old page
  stay_same page i =
      let in_tree = (in-filter (λ p. times p placed.left == 0) tree page i).0 in
      written.stay page in_tree (free_none placed.staged page (none_staged placed.staged page (λ there. are.outside page there in_tree)))

  names : (k : ℕ) → (if placed.next.root == k then 1 else 0) + times k (named_in new (stay ++ fresh)) ≡ times k (stay ++ fresh)
  names k =
      let n = ap (times k) (flat_map-append (in_node new) stay fresh) in
      let a = times-append k (named_in new stay) (named_in new fresh) in
      let b = times-append k stay fresh in
      let x = ap (times k) (stay_named old new stay stay_same) in
      let y = ap (times k) (stand_named new placed.staged written.stand) in
      let z = without_named old placed.left tree takes.once left_among stands.once k in
      let w = with_left_pages placed.left tree k (takes.once k) (left_among k) (stands.once k) in
      let r = stands_named old t tree stands k in
      let p = takes.names k in
      omega arith

  pub goes_on : t.pages ≤ placed.next.pages → StandsOnPages new placed.next (stay ++ fresh)
  goes_on more = record {
    root = in-append_right stay fresh placed.next.root takes.root;
    within = all_append (IsNodePage placed.next) stay fresh
        (all_weaker (IsNodePage t) (IsNodePage placed.next) stay (λ p w. (w.0, let l = w.1 in omega arith)) (all_filter (IsNodePage t) (λ p. times p placed.left == 0) tree stands.within)) are.within;
    once = λ k. let a = times-append k stay fresh in let o = apart k in omega arith;
    named = λ k. root_apart placed.next.root k (times k (named_in new (stay ++ fresh))) (times k (stay ++ fresh)) (names k) (let a = times-append k stay fresh in let o = apart k in omega arith);
  }

pub go_on : TreesGoOn
go_on old new t tree placed stands more takes are written = goes_on old new t tree placed stands takes are written more

-- ---- the pages of a placement

all_pages : (Q : ℕ → Type 0) (R : StagedNode → Type 0) (staged : List StagedNode) → AllByRecursion (λ s. Q s.page × R s) staged → AllByRecursion Q (pages_of staged)
all_pages Q R [] all = tt
all_pages Q R (s ∷ staged) all = (all.0.0, all_pages Q R staged all.1)

pub placements_new : PlacementsAreNew
placements_new head t tree numbers added placed within are apart is = record {
  within = all_pages (IsNodePage placed.next) _ placed.staged is.nodes;
  once = λ page. subst (λ (pages : List ℕ). times page pages ≤ 1) (sym numbered) (given_once (number_at numbers t.pages) (number_up numbers t.pages are) page 0 nodes).0;
  outside = λ page new old.
      let there = in-map (λ (s : StagedNode). s.page) placed.staged page new in
      elim (all_in (λ (s : StagedNode). IsIn s.page numbers ⊎ (t.pages ≤ s.page)) placed.staged there.0 is.given there.1) [
        | inl given ↦ apart page (subst (λ (p : ℕ). IsIn p numbers) (sym there.2) given) old
        | inr high ↦ (let low = (all_in (IsNodePage t) tree page within old).1 in let e = there.2 in absurd (omega arith))
      ];
}
  where
    nodes : List Node
    nodes = map (λ s. s.node) placed.staged

    numbered : pages_of placed.staged ≡ pages_from (number_at numbers t.pages) 0 nodes
    numbered = is.numbered ∙ sym (pages_range (number_at numbers t.pages) 0 nodes ∙ ap (λ (n : ℕ). map (number_at numbers t.pages) (range_with_len 0 n)) (length_map (λ (s : StagedNode). s.node) placed.staged))
