-- The new nodes of a walk take the place of those that it leaves.
use Rattle.std.proofs.Common.{◌≡◌, ◌⊎◌, ℕ, zero, suc, ◌+◌, ◌<◌, ◌≤◌, Bool, true, false, List, [], ◌∷◌, ◌++◌, refl, sym, ap, ◌∙◌, arith, length, map, subst, get_or, inl, inr}
use Rattle.std.specs.Prelude.{Option, Some, None, IsTrue, ◌==◌, if◌then◌else◌}
use Rattle.std.specs.List.{AllByRecursion, flat_map}
use Rattle.std.proofs.lemmas.Bool.Decides.{nat_tests}
use Rattle.metric_laws.specs.Lists.{IsIn}
use Rattle.metric_laws.proofs.Published.{all_append, flat_map-append}
use Rattle.tree_shape.specs.declared.entry.InnerEntry.{InnerEntry}
use Rattle.tree_shape.specs.declared.entry.Node.{Node}
use Rattle.tree_shape.specs.declared.entry.Node.TheVariants.{Leaf, Inner}
use Rattle.tree_shape.specs.declared.live.Live.{Live}
use Rattle.tree_shape.specs.Tree.{Nodes, inner_entries, times, parent_distance}
use Rattle.tree_shape.proofs.Published.{times-append}
use Rattle.tree_growth.specs.Dealing.{Ball, split_of}
use Rattle.tree_growth.specs.Insertion.{taken, left, chosen}
use Rattle.promote_split.specs.declared.halves.Half.{Half}
use Rattle.promote_split.specs.Halves.{IsHalf}
use Rattle.page_store.specs.declared.staging.Placed.{Placed}
use Rattle.page_store.specs.declared.staging.StagedNode.{StagedNode}
use Rattle.page_store.specs.Numbers.{numbered}
use Rattle.page_store.specs.Placing.{level_of}
use Rattle.page_store.specs.Reached.{IsReached, named_in}
use Rattle.page_store.specs.Reached.IsReached.{at_root, by_child}
use Rattle.page_store.specs.Reading.{IsWithin, nodes_of}
use Rattle.page_store.specs.Shelf.{Shelf}
use Rattle.page_store.specs.Staging.{pages_of}
use Rattle.page_store.specs.Succession.{TakesPlace, named_by}
use Rattle.page_store.proofs.Published.{given_in, pages_numbered, in_node, named_numbered, names_more, names_of, pages_from, pages_more}
use Rattle.insert_path.specs.declared.grew.Grew.{Grew}
use Rattle.insert_path.specs.declared.grew.Grew.TheVariants.{One, Two}
use Rattle.insert_path.specs.Walk.{inner_ball}
use Rattle.insert_path.specs.Descent.{Plan, leaf_ball, leaf_with, inner_with, new_entry, entry_of, regrown, IsStaged, Descends, Roots, Walks}
use Rattle.insert_path.proofs.Final.{walks_given}
use Rattle.insert_path.proofs.Holding.{chosen_in}
use Rattle.insert_path.proofs.Paged.{times_parts, flat_same, no_pages, none_flat}
use Rattle.insert_path.proofs.Walked.{told_node}

-- ---- the pages that are left

-- they are within, whatever the pages tell
pub descends_within : (P : Plan) (shelf : Shelf) (h page : ℕ) (above : Option (List ℕ)) (l0 : List ℕ) (old : List Node) (l1 : List ℕ) (nodes : List Node) (g : Grew) → Descends P shelf h page above l0 old l1 nodes g →
    AllByRecursion (IsWithin shelf.pages) l0 → AllByRecursion (IsWithin shelf.pages) l1
descends_within P shelf zero page above l0 old l1 nodes g d all = subst (AllByRecursion (IsWithin shelf.pages)) (sym d.2) (all_append (IsWithin shelf.pages) l0 (page ∷ []) all (d.1.within, tt))
descends_within P shelf (suc h) page above l0 old l1 nodes g d all =
    descends_within P shelf h d.1.child (Some d.1.point) (l0 ++ page ∷ []) old l1 d.2 d.3 d.7 (all_append (IsWithin shelf.pages) l0 (page ∷ []) all (d.4.within, tt))

module _ (P : Plan) (shelf : Shelf) (is_known : IsTrue shelf.is_known) where
  abbrev nodes_now : Nodes
  nodes_now = nodes_of shelf.read

  is_leaf : (h page : ℕ) (above : Option (List ℕ)) (l0 : List ℕ) (old : List Node) (l1 : List ℕ) (nodes : List Node) (g : Grew) (d : Descends P shelf zero page above l0 old l1 nodes g) → nodes_now page ≡ Some (Leaf d.0)
  is_leaf h page above l0 old l1 nodes g d = told_node shelf page (Leaf d.0) (d.1.told is_known)

  is_inner : (h page : ℕ) (above : Option (List ℕ)) (l0 : List ℕ) (old : List Node) (l1 : List ℕ) (nodes : List Node) (g : Grew) (d : Descends P shelf (suc h) page above l0 old l1 nodes g) → nodes_now page ≡ Some (Inner (suc h) d.0)
  is_inner h page above l0 old l1 nodes g d = told_node shelf page (Inner (suc h) d.0) (d.4.told is_known)

  -- they are reached
  pub descends_reached : (root h page : ℕ) (above : Option (List ℕ)) (l0 : List ℕ) (old : List Node) (l1 : List ℕ) (nodes : List Node) (g : Grew) → Descends P shelf h page above l0 old l1 nodes g →
      IsReached nodes_now root page → AllByRecursion (IsReached nodes_now root) l0 → AllByRecursion (IsReached nodes_now root) l1
  descends_reached root zero page above l0 old l1 nodes g d r all = subst (AllByRecursion (IsReached nodes_now root)) (sym d.2) (all_append (IsReached nodes_now root) l0 (page ∷ []) all (r, tt))
  descends_reached root (suc h) page above l0 old l1 nodes g d r all =
      descends_reached root h d.1.child (Some d.1.point) (l0 ++ page ∷ []) old l1 d.2 d.3 d.7
      (by_child page d.1 r (subst (λ (o : Option Node). IsIn d.1 (inner_entries o)) (sym (is_inner h page above l0 old l1 nodes g d)) (chosen_in d.0 (chosen P.space (map inner_ball d.0) P.object.point) d.1 d.5 d.6)))
      (all_append (IsReached nodes_now root) l0 (page ∷ []) all (r, tt))

  -- each is left once: its node has the level of its depth
  abbrev IsLow : ℕ → ℕ → Type 0
  IsLow h page = (n : Node) × (nodes_now page ≡ Some n) × (level_of n ≤ h)

  one_more : (page k : ℕ) (l0 : List ℕ) (h : ℕ) → IsLow h page → (times k (l0 ++ page ∷ []) ≡ times k l0) ⊎ ((times k (l0 ++ page ∷ []) ≡ times k l0 + 1) × IsLow h k)
  one_more page k l0 h low = cases (page == k) refl
    where
      cases : (b : Bool) → (page == k) ≡ b → (times k (l0 ++ page ∷ []) ≡ times k l0) ⊎ ((times k (l0 ++ page ∷ []) ≡ times k l0 + 1) × IsLow h k)
      cases true e =
          let a = times-append k l0 (page ∷ []) in
          let one : ◌≡◌ {A = ℕ} (if page == k then 1 else 0) 1 = ap (λ (b : Bool). if b then 1 else 0) e in
          inr (omega arith, subst (IsLow h) (let s : page ≡ k = grind (arith, nat_tests) in s) low)
      cases false e =
          let a = times-append k l0 (page ∷ []) in
          let none : ◌≡◌ {A = ℕ} (if page == k then 1 else 0) 0 = ap (λ (b : Bool). if b then 1 else 0) e in
          inl (omega arith)

  higher : (h page : ℕ) (es : List InnerEntry) → nodes_now page ≡ Some (Inner (suc h) es) → IsLow h page → ⊥
  higher h page es is low =
      let same : Some (Inner (suc h) es) ≡ Some low.0 = sym is ∙ low.1 in
      let l : suc h ≡ level_of low.0 = ap (λ (o : Option Node). level_or o) same in
      let m = low.2 in
      absurd (omega (arith, l, m))
    where
      level_or : Option Node → ℕ
      level_or (Some n) = level_of n
      level_or None = 0

  pub descends_once : (h page : ℕ) (above : Option (List ℕ)) (l0 : List ℕ) (old : List Node) (l1 : List ℕ) (nodes : List Node) (g : Grew) → Descends P shelf h page above l0 old l1 nodes g → (k : ℕ) →
      (times k l1 ≡ times k l0) ⊎ ((times k l1 ≡ times k l0 + 1) × IsLow h k)
  descends_once zero page above l0 old l1 nodes g d k =
      subst (λ (l : List ℕ). (times k l ≡ times k l0) ⊎ ((times k l ≡ times k l0 + 1) × IsLow zero k)) (sym d.2)
      (one_more page k l0 zero (Leaf d.0, is_leaf zero page above l0 old l1 nodes g d, omega arith))
  descends_once (suc h) page above l0 old l1 nodes g d k =
      elim (descends_once h d.1.child (Some d.1.point) (l0 ++ page ∷ []) old l1 d.2 d.3 d.7 k) [
        | inl same ↦ elim (one_more page k l0 (suc h) low) [ inl e ↦ inl (same ∙ e) | inr more ↦ inr (same ∙ more.0, more.1) ]
        | inr deep ↦ elim (one_more page k l0 (suc h) low) [
          | inl e ↦ inr (deep.0 ∙ ap (λ (n : ℕ). n + 1) e, (deep.1.0, deep.1.1, let l = deep.1.2 in omega (arith, l)))
          | inr more ↦ absurd (apart (page == k) refl deep.1 more.0)
        ]
      ]
    where
      is : nodes_now page ≡ Some (Inner (suc h) d.0)
      is = is_inner h page above l0 old l1 nodes g d

      low : IsLow (suc h) page
      low = (Inner (suc h) d.0, is, omega arith)

      apart : (b : Bool) → (page == k) ≡ b → IsLow h k → times k (l0 ++ page ∷ []) ≡ times k l0 + 1 → ⊥
      apart true e here more = higher h page d.0 is (subst (IsLow h) (let s : k ≡ page = grind (arith, nat_tests) in s) here)
      apart false e here more =
          let a = times-append k l0 (page ∷ []) in
          let none : ◌≡◌ {A = ℕ} (if page == k then 1 else 0) 0 = ap (λ (b : Bool). if b then 1 else 0) e in
          absurd (omega arith)

-- ---- what the new nodes name

-- the new pages of what has grown
abbrev pub tops : Grew → List ℕ
tops (One page) = page ∷ []
tops (Two c d) = c.page ∷ d.page ∷ []

-- a staged node stands on new pages, and names what its entries name
pub staged_names : {E : Type 0} (P : Plan) (ball : E → Ball) (set : E → ℕ → E) (make : List E → Node) (es : List E) (f : E → List ℕ) (old new : List Node) (g : Grew) →
    ((e : E) (d : ℕ) → f (set e d) ≡ f e) → ((xs : List E) → map (λ e. e.child) (inner_entries (Some (make xs))) ≡ flat_map f xs) →
    IsStaged P ball set make es old new g → (k : ℕ) →
    (times k (tops g) + times k (pages_from P.number 0 old) ≡ times k (pages_from P.number 0 new)) × (times k (names_of new) ≡ times k (names_of old) + times k (flat_map f es))
staged_names {E} P ball set make es f old new g keeps names staged k = elim staged [
  | inl w ↦ (
    (let p = pages_more P.number old (make es ∷ []) new k w.staged in rw w.grew (omega (arith, p))),
    (let n = names_more old (make es ∷ []) new k w.staged in let m = ap (times k) (names es) in let a = times-append k (map (λ e. e.child) (inner_entries (Some (make es)))) [] in omega (arith, n, m, a)),
  )
  | inr h ↦ (
    (let p = pages_more P.number old (make h.0.first.entries ∷ make h.0.second.entries ∷ []) new k h.1.staged in rw h.1.grew (omega (arith, p))),
    (let n = names_more old (make h.0.first.entries ∷ make h.0.second.entries ∷ []) new k h.1.staged in
        let a = times-append k (map (λ e. e.child) (inner_entries (Some (make h.0.first.entries)))) (map (λ e. e.child) (inner_entries (Some (make h.0.second.entries))) ++ []) in
        let b = times-append k (map (λ e. e.child) (inner_entries (Some (make h.0.second.entries)))) [] in
        let c = ap (times k) (names h.0.first.entries ∙ half (split_of P.space P.promote P.split P.least (map ball es)).first (taken (split_of P.space P.promote P.split P.least (map ball es)).mask es) h.0.first h.1.halves.split.0) in
        let d = ap (times k) (names h.0.second.entries ∙ half (split_of P.space P.promote P.split P.least (map ball es)).second (left (split_of P.space P.promote P.split P.least (map ball es)).mask es) h.0.second h.1.halves.split.1) in
        let both = times_parts k f (split_of P.space P.promote P.split P.least (map ball es)).mask es in
        omega (arith, n, a, b, c, d, both)),
  )
]
  where
    half : (b : Ball) (xs : List E) (h : Half E) → IsHalf P.space ball set b xs h → flat_map f h.entries ≡ flat_map f xs
    half b xs h is = ap (flat_map f) is.entries_are ∙ flat_same f (λ e. set e (P.space.dist (ball e).0 b.0)) xs (λ e. keeps e (P.space.dist (ball e).0 b.0))

abbrev only_child : InnerEntry → List ℕ
only_child e = e.child ∷ []

children_are : (es : List InnerEntry) → map (λ e. e.child) es ≡ flat_map only_child es
children_are [] = refl
children_are (e ∷ es) = ap (λ (r : List ℕ). e.child ∷ r) (children_are es)

-- a node whose subtree has grown names its new pages in place of the old one
pub regrown_names : (k : ℕ) (far par : List ℕ → ℕ) (g : Grew) (i : ℕ) (es : List InnerEntry) (z : InnerEntry) → i < length es →
    times k (flat_map only_child (regrown far par i g es)) + times k ((get_or es i z).child ∷ []) ≡ times k (flat_map only_child es) + times k (tops g)
regrown_names k far par g i [] z low = absurd (omega arith)
regrown_names k far par (One page) zero (e ∷ es) z low = omega arith
regrown_names k far par (Two c d) zero (e ∷ es) z low =
    let m = ap (times k) (flat_map-append only_child es (entry_of par d ∷ [])) in
    let a = times-append k (flat_map only_child es) (d.page ∷ []) in
    omega (arith, m, a)
regrown_names k far par g (suc i) (e ∷ es) z low = let ih = regrown_names k far par g i es z (omega arith) in omega (arith, ih)

named_more : (nodes : Nodes) (l0 : List ℕ) (page k : ℕ) (es : List InnerEntry) → inner_entries (nodes page) ≡ es → times k (named_in nodes (l0 ++ page ∷ [])) ≡ times k (named_in nodes l0) + times k (flat_map only_child es)
named_more nodes l0 page k es is =
    ap (times k) (flat_map-append (in_node nodes) l0 (page ∷ [])) ∙ times-append k (named_in nodes l0) (in_node nodes page ++ [])
    ∙ (let a = times-append k (in_node nodes page) [] in let e = ap (λ (xs : List InnerEntry). times k (map (λ e. e.child) xs)) is ∙ ap (times k) (children_are es) in omega (arith, a, e))

pub descends_names : (P : Plan) (shelf : Shelf) → IsTrue shelf.is_known → (h page : ℕ) (above : Option (List ℕ)) (l0 : List ℕ) (old : List Node) (l1 : List ℕ) (nodes : List Node) (g : Grew) → Descends P shelf h page above l0 old l1 nodes g → (k : ℕ) →
    times k (tops g) + times k (names_of nodes) + times k l1 + times k (named_in (nodes_of shelf.read) l0) + times k (pages_from P.number 0 old)
    ≡ times k (page ∷ []) + times k (names_of old) + times k l0 + times k (named_in (nodes_of shelf.read) l1) + times k (pages_from P.number 0 nodes)
descends_names P shelf is_known zero page above l0 old l1 nodes g d k =
    let staged = staged_names P leaf_ball leaf_with Leaf (d.0 ++ new_entry P above ∷ []) no_pages old nodes g (λ e d. refl) (λ xs. sym (none_flat xs)) d.3 k in
    let a = staged.0 in
    let b = staged.1 in
    let none = ap (times k) (none_flat (d.0 ++ new_entry P above ∷ [])) in
    let left = ap (times k) d.2 ∙ times-append k l0 (page ∷ []) in
    let named = ap (λ (l : List ℕ). times k (named_in (nodes_of shelf.read) l)) d.2 ∙ named_more (nodes_of shelf.read) l0 page k [] (ap inner_entries (told_node shelf page (Leaf d.0) (d.1.told is_known))) in
    omega (arith, a, b, none, left, named)
descends_names P shelf is_known (suc h) page above l0 old l1 nodes g d k =
    let below = descends_names P shelf is_known h d.1.child (Some d.1.point) (l0 ++ page ∷ []) old l1 d.2 d.3 d.7 k in
    let staged = staged_names P inner_ball inner_with (Inner (suc h)) (regrown (P.space.dist P.object.point) (parent_distance P.space above) (chosen P.space (map inner_ball d.0) P.object.point) d.3 d.0) only_child d.2 nodes g (λ e d. refl) (λ xs. children_are xs) d.8 k in
    let a = staged.0 in
    let b = staged.1 in
    let grown = regrown_names k (P.space.dist P.object.point) (parent_distance P.space above) d.3 (chosen P.space (map inner_ball d.0) P.object.point) d.0 d.1 d.5 in
    let mine = ap (λ (e : InnerEntry). times k (e.child ∷ [])) d.6 in
    let left = times-append k l0 (page ∷ []) in
    let named = named_more (nodes_of shelf.read) l0 page k d.0 (ap inner_entries (told_node shelf page (Inner (suc h) d.0) (d.4.told is_known))) in
    omega (arith, below, a, b, grown, mine, left, named)

-- a new root stands on a new page and names the halves
pub root_names : (number : ℕ → ℕ) (h k : ℕ) (g : Grew) (old new : List Node) (root height : ℕ) → Roots number h g old new root height →
    times k (root ∷ names_of new) + times k (pages_from number 0 old) ≡ times k (tops g) + times k (names_of old) + times k (pages_from number 0 new)
root_names number h k (One page) old new root height roots =
    let n = ap (λ (xs : List Node). times k (names_of xs)) roots.0 in
    let p = ap (λ (xs : List Node). times k (pages_from number 0 xs)) roots.0 in
    let r = ap (λ (x : ℕ). times k (x ∷ [])) roots.1 in
    omega (arith, n, p, r)
root_names number h k (Two c d) old new root height roots =
    let n = names_more old _ new k roots.1 in
    let p = pages_more number old _ new k roots.1 in
    let r = ap (λ (x : ℕ). times k (x ∷ [])) roots.2 in
    omega (arith, n, p, r)

-- ---- the whole walk

pub walks_within : (P : Plan) (shelf : Shelf) (t : Live) (left : List ℕ) (nodes : List Node) (root height : ℕ) → Walks P shelf t left nodes root height → AllByRecursion (IsWithin shelf.pages) left
walks_within P shelf t left nodes root height w = descends_within P shelf t.height t.root None [] [] left w.0 w.1 w.2 tt

pub takes_place : (P : Plan) (shelf : Shelf) → IsTrue shelf.is_known → (t : Live) (nodes : List Node) (root height : ℕ) (placed : Placed) → Walks P shelf t placed.left nodes root height →
    placed.staged ≡ numbered P.number 0 nodes → placed.next.root ≡ root → TakesPlace (nodes_of shelf.read) t placed
takes_place P shelf is_known t nodes root height placed w staged same = record {
  left = descends_reached P shelf is_known t.root t.height t.root None [] [] placed.left w.0 w.1 w.2 at_root tt;
  once = λ page. elim (descends_once P shelf is_known t.height t.root None [] [] placed.left w.0 w.1 w.2 page) [ inl e ↦ omega (arith, e) | inr more ↦ (let e = more.0 in omega (arith, e)) ];
  root =
      let given = walks_given P shelf t placed.left nodes root height w in
      subst (IsIn placed.next.root) (sym pages)
      (subst (λ (r : ℕ). IsIn r (pages_from P.number 0 nodes)) (sym (same ∙ given.2)) (given_in P.number 0 given.0 nodes (omega arith) (let l = given.1 in omega (arith, l))));
  names = λ page.
      let d = descends_names P shelf is_known t.height t.root None [] [] placed.left w.0 w.1 w.2 page in
      let r = root_names P.number t.height page w.1 w.0 nodes root height w.3 in
      let n = ap (λ (ss : List StagedNode). times page (named_by ss)) staged ∙ ap (times page) (named_numbered P.number 0 nodes) in
      let p = ap (times page) pages in
      let e = ap (λ (x : ℕ). times page (x ∷ [])) same in
      omega (arith, d, r, n, p, e);
}
  where
    pages : pages_of placed.staged ≡ pages_from P.number 0 nodes
    pages = ap pages_of staged ∙ pages_numbered P.number 0 nodes
