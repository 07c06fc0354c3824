-- The walk of a sound tree.
use Rattle.std.proofs.Common.{◌≡◌, ℕ, zero, suc, ◌+◌, ◌-◌, ◌≤◌, ◌<◌, true, List, [], ◌∷◌, ◌++◌, length, refl, sym, ap, subst, ◌∙◌, arith, append_assoc, length-append, Option, Some, Result, Ok, Err}
use Rattle.std.specs.Prelude.{◌==◌, map}
use Rattle.std.specs.List.{AllByRecursion, flat_map}
use Rattle.std.proofs.lemmas.Bool.Decides.{nat_tests}
use Rattle.std.proofs.lemmas.List.{append-nil}
use Rattle.metric_laws.specs.Space.{Space}
use Rattle.metric_laws.proofs.Published.{all_weaker}
use Rattle.tree_shape.specs.declared.entry.InnerEntry.{InnerEntry}
use Rattle.tree_shape.specs.declared.entry.Node.{Node}
use Rattle.tree_shape.specs.declared.entry.Node.TheVariants.{Leaf, Inner}
use Rattle.tree_shape.specs.declared.live.Live.{Live}
use Rattle.tree_shape.specs.Fill.{least_for}
use Rattle.tree_shape.specs.Tree.{Nodes, IsSoundAt, IsSoundEntry, IsSoundTree, objects_at, pages_at, times, inner_entries}
use Rattle.tree_shape.proofs.Published.{times-append, counted, few}
use Rattle.page_store.specs.declared.pages.PageFault.{PageFault}
use Rattle.page_store.specs.Reading.{Read, nodes_of, node_or_none}
use Rattle.page_store.specs.Placing.{live_pages}
use Rattle.page_store.specs.Tours.{children}
use Rattle.free_pages.specs.Walk.{walked, tree_walk}

abbrev Once : List ℕ → Type 0
Once xs = (k : ℕ) → times k xs ≤ 1

read_is : (r : Result Node PageFault) (node : Node) → node_or_none r ≡ Some node → r ≡ Ok node
read_is (Ok n) node e = (cc)
read_is (Err f) node e = absurd (cc)

once_front : (xs ys : List ℕ) → Once (xs ++ ys) → Once xs
once_front xs ys once k = let a = times-append k xs ys in let h = once k in omega arith

-- a page that stands in the rest wasn't opened
fresh : (opened rest : List ℕ) (page : ℕ) → Once (opened ++ page ∷ rest) → (times page opened == 0) ≡ true
fresh opened rest page once =
    let a = times-append page opened (page ∷ rest) in
    let c = counted page rest in
    let h = once page in
    let z : times page opened ≡ 0 = omega arith in
    grind (arith, nat_tests)

pub opens : (read : Read) (most : ℕ) (opened : List ℕ) (page : ℕ) (coming : List ℕ) (node : Node) → (times page opened == 0) ≡ true → read page ≡ Ok node →
    walked read (suc most) opened (page ∷ coming) ≡ walked read most (opened ++ page ∷ []) (children node ++ coming)
opens read most opened page coming node new is = rw (new, is) refl

module _ (s : Space) (read : Read) where
  abbrev nodes : Nodes
  nodes = nodes_of read

  -- the walk of a subtree, in the midst of a walk
  abbrev Walks : ℕ → ℕ → Type 0
  Walks h page = (most : ℕ) (opened coming : List ℕ) → Once (opened ++ pages_at nodes h page) →
      walked read (most + length (pages_at nodes h page)) opened (page ∷ coming) ≡ walked read most (opened ++ pages_at nodes h page) coming

  each : (h : ℕ) (es : List InnerEntry) → AllByRecursion (λ e. Walks h e.child) es → (most : ℕ) (opened coming : List ℕ) → Once (opened ++ flat_map (λ e. pages_at nodes h e.child) es) →
      walked read (most + length (flat_map (λ e. pages_at nodes h e.child) es)) opened (map (λ e. e.child) es ++ coming) ≡ walked read most (opened ++ flat_map (λ e. pages_at nodes h e.child) es) coming
  each h [] all most opened coming once =
      let n : most + 0 ≡ most = omega arith in
      ap (λ (m : ℕ). walked read m opened coming) n ∙ ap (λ (xs : List ℕ). walked read most xs coming) (sym (append-nil opened))
  each h (e ∷ es) all most opened coming once =
      let first = pages_at nodes h e.child in
      let rest = flat_map (λ e. pages_at nodes h e.child) es in
      let n : most + length (first ++ rest) ≡ (most + length rest) + length first = (let l = length-append first rest in omega arith) in
      let joined = append_assoc opened first rest in
      let both : Once ((opened ++ first) ++ rest) = subst Once (sym joined) once in
      ap (λ (m : ℕ). walked read m opened (e.child ∷ (map (λ e. e.child) es ++ coming))) n
      ∙ all.0 (most + length rest) opened (map (λ e. e.child) es ++ coming) (once_front (opened ++ first) rest both)
      ∙ each h es all.1 most (opened ++ first) coming both
      ∙ ap (λ (xs : List ℕ). walked read most xs coming) joined

  pub subtree : (h least : ℕ) (above : Option (List ℕ)) (page : ℕ) → IsSoundAt s nodes h least above page → Walks h page
  subtree zero least above page sound most opened coming once =
      let n : most + 1 ≡ suc most = omega arith in
      ap (λ (m : ℕ). walked read m opened (page ∷ coming)) n
      ∙ opens read most opened page coming (Leaf sound.0) (fresh opened [] page once) (read_is (read page) (Leaf sound.0) sound.1)
  subtree (suc h) least above page sound most opened coming once =
      let es : List InnerEntry = sound.0 in
      let below : inner_entries (nodes page) ≡ es = ap (λ (n : Option Node). inner_entries n) sound.1 in
      let whole : pages_at nodes (suc h) page ≡ page ∷ flat_map (λ e. pages_at nodes h e.child) es = ap (λ (xs : List InnerEntry). page ∷ flat_map (λ e. pages_at nodes h e.child) xs) below in
      let rest = flat_map (λ e. pages_at nodes h e.child) es in
      let all : AllByRecursion (λ e. Walks h e.child) es = all_weaker
      (λ (e : InnerEntry). IsSoundEntry s above (objects_at nodes h e.child) e × IsSoundAt s nodes h (least_for s.dimension) (Some e.point) e.child)
      (λ (e : InnerEntry). Walks h e.child) es (λ e both. subtree h (least_for s.dimension) (Some e.point) e.child both.1) sound.3 in
      let once' : Once (opened ++ page ∷ rest) = subst (λ (xs : List ℕ). Once (opened ++ xs)) whole once in
      let n : most + length (page ∷ rest) ≡ suc (most + length rest) = omega arith in
      let joined : (opened ++ page ∷ []) ++ rest ≡ opened ++ page ∷ rest = append_assoc opened (page ∷ []) rest in
      ap (λ (xs : List ℕ). walked read (most + length xs) opened (page ∷ coming)) whole
      ∙ ap (λ (m : ℕ). walked read m opened (page ∷ coming)) n
      ∙ opens read (most + length rest) opened page coming (Inner (suc h) es) (fresh opened rest page once') (read_is (read page) (Inner (suc h) es) sound.1)
      ∙ each h es all most (opened ++ page ∷ []) coming (subst Once (sym joined) once')
      ∙ ap (λ (xs : List ℕ). walked read most xs coming) joined
      ∙ ap (λ (xs : List ℕ). walked read most (opened ++ xs) coming) (sym whole)

pub sound_walk : (s : Space) (read : Read) (t : Live) → IsSoundTree s (nodes_of read) t → tree_walk read t ≡ Ok (live_pages (nodes_of read) t)
sound_walk s read t sound =
    let tree = live_pages (nodes_of read) t in
    let is_point : length tree ≤ t.pages = few t.pages tree (all_weaker (λ (p : ℕ). (3 ≤ p) × (p < t.pages)) (λ (p : ℕ). p < t.pages) tree (λ p both. both.1) sound.within) sound.once in
    let n : suc t.pages ≡ (suc t.pages - length tree) + length tree = omega arith in
    ap (λ (m : ℕ). walked read m [] (t.root ∷ [])) n ∙ subtree s read t.height _ _ t.root sound.parts (suc t.pages - length tree) [] [] sound.once ∙ done (suc t.pages - length tree) tree
  where
    done : (m : ℕ) (xs : List ℕ) → walked read m xs [] ≡ Ok xs
    done zero xs = refl
    done (suc m) xs = refl
