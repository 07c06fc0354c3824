-- A sound tree is whole, on its pages in pre-order.
use Rattle.std.proofs.Common.{◌≡◌, ℕ, zero, suc, ◌+◌, ◌≤◌, Bool, true, false, List, [], ◌∷◌, ◌++◌, refl, sym, ap, subst, inl, inr, arith, Option, Some}
use Rattle.std.specs.Prelude.{◌==◌, if◌then◌else◌, map}
use Rattle.std.specs.List.{AllByRecursion, flat_map}
use Rattle.std.proofs.lemmas.Bool.Decides.{nat_tests}
use Rattle.metric_laws.specs.Space.{Space}
use Rattle.metric_laws.specs.Lists.{IsIn}
use Rattle.metric_laws.proofs.Published.{all_in, all_each, all_weaker, all_flat_map, flat_map-append, map-in}
use Rattle.tree_shape.specs.declared.entry.InnerEntry.{InnerEntry}
use Rattle.tree_shape.specs.declared.entry.Node.{Node}
use Rattle.tree_shape.specs.declared.live.Live.{Live}
use Rattle.tree_shape.specs.Fill.{least_for}
use Rattle.tree_shape.specs.Tree.{Nodes, IsSoundAt, IsSoundEntry, inner_entries, objects_at, pages_at, times}
use Rattle.tree_shape.proofs.Published.{times-append, counted}
use Rattle.page_store.specs.Laws.{SoundTreesAreWhole, TreesStandOnPages}
use Rattle.page_store.specs.Placing.{live_pages}
use Rattle.page_store.specs.Reached.{IsReached, StandsOnPages, named_in}
use Rattle.page_store.specs.Reached.IsReached.{at_root, by_child}
use Rattle.page_store.proofs.Named.{in_node}
use Rattle.page_store.proofs.Standing.{in_times, times_in}

-- ---- what a sound tree names

module _ (s : Space) (nodes : Nodes) where
  abbrev Subtree : ℕ → Option (List ℕ) → InnerEntry → Type 0
  Subtree h above e = IsSoundEntry s above (objects_at nodes h e.child) e × IsSoundAt s nodes h (least_for s.dimension) (Some e.point) e.child

  -- a page and what its subtree names are its subtree's pages
  abbrev NamesItsPages : ℕ → ℕ → Type 0
  NamesItsPages h page = (k : ℕ) → times k (page ∷ named_in nodes (pages_at nodes h page)) ≡ times k (pages_at nodes h page)

  entries_name : (h : ℕ) (es : List InnerEntry) → AllByRecursion (λ e. NamesItsPages h e.child) es → (k : ℕ) →
      times k (map (λ e. e.child) es) + times k (named_in nodes (flat_map (λ e. pages_at nodes h e.child) es)) ≡ times k (flat_map (λ e. pages_at nodes h e.child) es)
  entries_name h [] all k = refl
  entries_name h (e ∷ es) all k =
      let first = pages_at nodes h e.child in
      let rest = flat_map (λ e. pages_at nodes h e.child) es in
      let n = ap (times k) (flat_map-append (in_node nodes) first rest) in
      let a = times-append k (named_in nodes first) (named_in nodes rest) in
      let b = times-append k first rest in
      let here = all.0 k in
      let ih = entries_name h es all.1 k in
      omega arith

  pub subtree_names : (h least : ℕ) (above : Option (List ℕ)) (page : ℕ) → IsSoundAt s nodes h least above page → NamesItsPages h page
  subtree_names zero least above page sound k =
      let none : in_node nodes page ≡ [] = ap (λ (n : Option Node). map (λ e. e.child) (inner_entries n)) sound.1 in
      ap (λ (xs : List ℕ). times k (page ∷ (xs ++ []))) none
  subtree_names (suc h) least above page sound k =
      let es : List InnerEntry = sound.0 in
      let below : inner_entries (nodes page) ≡ es = ap (λ (n : Option Node). inner_entries n) sound.1 in
      let rest = flat_map (λ e. pages_at nodes h e.child) (inner_entries (nodes page)) in
      let all : AllByRecursion (λ e. NamesItsPages h e.child) es =
      all_weaker (Subtree h above) (λ (e : InnerEntry). NamesItsPages h e.child) es (λ e both. subtree_names h (least_for s.dimension) (Some e.point) e.child both.1) sound.3 in
      let n = entries_name h (inner_entries (nodes page)) (subst (AllByRecursion (λ e. NamesItsPages h e.child)) (sym below) all) k in
      let a = times-append k (in_node nodes page) (named_in nodes rest) in
      omega arith

  -- where a page is reached, so are its subtree's pages
  pub subtree_reached : (root h page : ℕ) → IsReached nodes root page → AllByRecursion (IsReached nodes root) (pages_at nodes h page)
  subtree_reached root zero page r = (r, tt)
  subtree_reached root (suc h) page r = (
    r,
    all_flat_map (IsReached nodes root) (λ e. pages_at nodes h e.child) (inner_entries (nodes page))
        (all_each (λ e. AllByRecursion (IsReached nodes root) (pages_at nodes h e.child)) (inner_entries (nodes page)) (λ e i. subtree_reached root h e.child (by_child page e r i))),
  )

-- ---- where the root and what the pages name are the pages

in_named : (nodes : Nodes) (tree : List ℕ) (page k : ℕ) → IsIn page tree → IsIn k (in_node nodes page) → 1 ≤ times k (named_in nodes tree)
in_named nodes [] page k i named = absurd i
in_named nodes (p ∷ tree) page k i named =
    let a = times-append k (in_node nodes p) (named_in nodes tree) in
    elim i [
      | inl s ↦ let t = in_times k (in_node nodes p) (subst (λ (x : ℕ). IsIn k (in_node nodes x)) s named) in omega arith
      | inr w ↦ let t = in_named nodes tree page k w named in omega arith
    ]

-- a page that is reached is one of them
pub reached_in : (nodes : Nodes) (root : ℕ) (tree : List ℕ) → ((k : ℕ) → times k (root ∷ named_in nodes tree) ≡ times k tree) → (page : ℕ) → IsReached nodes root page → 1 ≤ times page tree
reached_in nodes root tree names _ at_root = let n = names root in let c = counted root (named_in nodes tree) in omega arith
reached_in nodes root tree names _ (by_child page e r i) =
    let above = reached_in nodes root tree names page r in
    let f = in_named nodes tree page e.child (times_in page tree above) (map-in (λ (e : InnerEntry). e.child) (inner_entries (nodes page)) e i) in
    let n = names e.child in
    omega arith

-- the root is named by none of them, and each other one once
pub root_apart : (root k named all : ℕ) → (if root == k then 1 else 0) + named ≡ all → all ≤ 1 → named ≡ (if k == root then 0 else all)
root_apart root k named all sum once = cases (k == root) refl
  where
    cases : (b : Bool) → (k == root) ≡ b → named ≡ (if b then 0 else all)
    cases true e = let s : (root == k) ≡ true = grind (arith, nat_tests) in let one : ◌≡◌ {A = ℕ} (if root == k then 1 else 0) 1 = ap (λ (b : Bool). if b then 1 else 0) s in omega arith
    cases false e = let s : (root == k) ≡ false = grind (arith, nat_tests) in let none : ◌≡◌ {A = ℕ} (if root == k then 1 else 0) 0 = ap (λ (b : Bool). if b then 1 else 0) s in omega arith

-- the other way round
pub with_root : (root k named all : ℕ) → named ≡ (if k == root then 0 else all) → (k ≡ root → all ≡ 1) → (if root == k then 1 else 0) + named ≡ all
with_root root k named all is one = cases (k == root) refl is
  where
    cases : (b : Bool) → (k == root) ≡ b → named ≡ (if b then 0 else all) → (if root == k then 1 else 0) + named ≡ all
    cases true e is = let s : (root == k) ≡ true = grind (arith, nat_tests) in let o : ◌≡◌ {A = ℕ} (if root == k then 1 else 0) 1 = ap (λ (b : Bool). if b then 1 else 0) s in let a = one (let same : k ≡ root = grind (arith, nat_tests) in same) in omega arith
    cases false e is = let s : (root == k) ≡ false = grind (arith, nat_tests) in let o : ◌≡◌ {A = ℕ} (if root == k then 1 else 0) 0 = ap (λ (b : Bool). if b then 1 else 0) s in omega arith

pub sound_is_whole : SoundTreesAreWhole
sound_is_whole s nodes t sound = record {
  reached = λ page. (
    λ i. all_in (IsReached nodes t.root) tree page (subtree_reached s nodes t.root t.height t.root at_root) i,
    λ r. times_in page tree (reached_in nodes t.root tree names page r),
  );
  within = sound.within;
  once = sound.once;
  named = λ page. root_apart t.root page (times page (named_in nodes tree)) (times page tree) (names page) (sound.once page);
}
  where
    tree : List ℕ
    tree = live_pages nodes t

    names : NamesItsPages s nodes t.height t.root
    names = subtree_names s nodes t.height _ _ t.root sound.parts

-- ---- a tree that stands on pages

pub stands_named : (nodes : Nodes) (t : Live) (tree : List ℕ) → StandsOnPages nodes t tree → (k : ℕ) → times k (t.root ∷ named_in nodes tree) ≡ times k tree
stands_named nodes t tree stands k =
    with_root t.root k (times k (named_in nodes tree)) (times k tree) (stands.named k)
    (λ same. let i = in_times t.root tree stands.root in let o = stands.once t.root in let e = ap (λ (n : ℕ). times n tree) same in omega arith)

pub stand_on_pages : TreesStandOnPages
stand_on_pages = record {
  whole = λ nodes t tree whole. record { root = (whole.reached t.root).1 at_root; within = whole.within; once = whole.once; named = whole.named };
  reached = λ nodes t tree page stands r. times_in page tree (reached_in nodes t.root tree (stands_named nodes t tree stands) page r);
}
