-- The objects that a walk by child numbers meets.
use Rattle.std.proofs.Common.{◌≡◌, ℕ, zero, suc, ◌+◌, List, [], ◌∷◌, ◌++◌, refl, sym, ap, ◌∙◌, subst, Option, Some, map, append_assoc, inl, inr, arith}
use Rattle.std.specs.List.{AllByRecursion, flat_map}
use Rattle.std.proofs.lemmas.List.{append-nil}
use Rattle.metric_laws.specs.Space.{Space}
use Rattle.metric_laws.proofs.Published.{flat_map-append}
use Rattle.tree_shape.specs.declared.entry.InnerEntry.{InnerEntry}
use Rattle.tree_shape.specs.declared.entry.LeafEntry.{LeafEntry}
use Rattle.tree_shape.specs.declared.entry.Node.{Node}
use Rattle.tree_shape.specs.declared.entry.Node.TheVariants.{Leaf, Inner}
use Rattle.tree_shape.specs.declared.live.Live.{Live}
use Rattle.tree_shape.specs.Fill.{least_for, root_least}
use Rattle.tree_shape.specs.Tree.{Nodes, IsSoundAt, IsSoundEntry, IsSoundTree, inner_entries, leaf_entries, objects, objects_at}
use Rattle.page_store.specs.Laws.{SoundTreesAreToured}
use Rattle.page_store.specs.Tours.{Tours, children}
use Rattle.page_store.proofs.Published.{same_some}
use Rattle.job_dump.specs.Rows.{IsOutOfPlace, due, objects_on, times_among, times_on}
use Rattle.job_dump.proofs.Noting.{among-append}

-- the objects on one more page
pub objects_more : (nodes : Nodes) (pages : List ℕ) (page : ℕ) → objects_on nodes (pages ++ page ∷ []) ≡ objects_on nodes pages ++ leaf_entries (nodes page)
objects_more nodes pages page =
    flat_map-append (λ p. leaf_entries (nodes p)) pages (page ∷ []) ∙ ap (λ (l : List LeafEntry). objects_on nodes pages ++ l) (append-nil (leaf_entries (nodes page)))

module _ (nodes : Nodes) where
  -- a walk on its way is the front of the whole one
  pub front_of : (ps os all left : List ℕ) → Tours nodes ps os left → Tours nodes ps all [] → (rest : List ℕ) × (all ≡ os ++ rest) × Tours nodes left rest []
  front_of ps [] all left walk whole = (all, refl, subst (λ (l : List ℕ). Tours nodes l all []) (sym walk) whole)
  front_of [] (o ∷ os) all left walk whole = absurd walk
  front_of (p ∷ ps) (o ∷ os) [] left walk whole = absurd (let e : ◌≡◌ {A = List ℕ} [] (p ∷ ps) = whole in cc)
  front_of (p ∷ ps) (o ∷ os) (a ∷ all) left walk whole =
      let node = same_some nodes p whole.0 walk.0 whole.1 walk.1 in
      let deep = front_of (children walk.0 ++ ps) os all left walk.3 (subst (λ (m : Node). Tours nodes (children m ++ ps) all []) node whole.3) in
      let head : a ≡ o = whole.2 ∙ sym walk.2 in
      (deep.0, ap (λ (x : ℕ). x ∷ all) head ∙ ap (λ (l : List ℕ). o ∷ l) deep.1, deep.2)

  -- nothing is left of a whole walk
  pub none_left : (rest : List ℕ) → Tours nodes [] rest [] → rest ≡ []
  none_left [] walk = refl
  none_left (r ∷ rest) walk = absurd walk

  -- a page without entries of a leaf
  inner_none : (page level : ℕ) (es : List InnerEntry) → nodes page ≡ Some (Inner level es) → leaf_entries (nodes page) ≡ []
  inner_none page level es is = ap leaf_entries is

  module _ (s : Space) where
    abbrev IsBelow : ℕ → Option (List ℕ) → InnerEntry → Type 0
    IsBelow h above e = IsSoundEntry s above (objects_at nodes h e.child) e × IsSoundAt s nodes h (least_for s.dimension) (Some e.point) e.child

    -- the walk meets these objects, and then goes on to the pages `ps`
    abbrev Meets : List LeafEntry → List ℕ → List ℕ → Type 0
    Meets here ps os = (after : List ℕ) × Tours nodes ps after [] × (objects_on nodes os ≡ here ++ objects_on nodes after)

    meets_entries : (h : ℕ) (above : Option (List ℕ)) → ((e : InnerEntry) → IsBelow h above e → (ps os : List ℕ) → Tours nodes (e.child ∷ ps) os [] → Meets (objects_at nodes h e.child) ps os) →
        (es : List InnerEntry) → AllByRecursion (IsBelow h above) es → (ps os : List ℕ) → Tours nodes (map (λ e. e.child) es ++ ps) os [] → Meets (flat_map (λ e. objects_at nodes h e.child) es) ps os
    meets_entries h above deep [] all ps os walk = (os, walk, refl)
    meets_entries h above deep (e ∷ es) all ps os walk =
        let first = deep e all.0 (map (λ e. e.child) es ++ ps) os walk in
        let rest = meets_entries h above deep es all.1 ps first.0 first.1 in (
          rest.0,
          rest.1,
          first.2 ∙ ap (λ (l : List LeafEntry). objects_at nodes h e.child ++ l) rest.2
              ∙ sym (append_assoc (objects_at nodes h e.child) (flat_map (λ e. objects_at nodes h e.child) es) (objects_on nodes rest.0)),
        )

    meets : (h least : ℕ) (above : Option (List ℕ)) (page : ℕ) → IsSoundAt s nodes h least above page → (ps os : List ℕ) → Tours nodes (page ∷ ps) os [] → Meets (objects_at nodes h page) ps os
    meets h least above page sound ps [] walk = absurd (let e : ◌≡◌ {A = List ℕ} [] (page ∷ ps) = walk in cc)
    meets zero least above page sound ps (o ∷ os) walk =
        let node = same_some nodes page walk.0 (Leaf sound.0) walk.1 sound.1 in (
          os,
          subst (λ (m : Node). Tours nodes (children m ++ ps) os []) node walk.3,
          ap (λ (p : ℕ). leaf_entries (nodes p) ++ objects_on nodes os) walk.2,
        )
    meets (suc h) least above page sound ps (o ∷ os) walk =
        let es : List InnerEntry = sound.0 in
        let node = same_some nodes page walk.0 (Inner (suc h) es) walk.1 sound.1 in
        let rest = meets_entries h above (λ e both. meets h (least_for s.dimension) (Some e.point) e.child both.1) es sound.3 ps os
        (subst (λ (m : Node). Tours nodes (children m ++ ps) os []) node walk.3) in (
          rest.0,
          rest.1,
          ap (λ (p : ℕ). leaf_entries (nodes p) ++ objects_on nodes os) walk.2
              ∙ ap (λ (l : List LeafEntry). l ++ objects_on nodes os) (inner_none page (suc h) es sound.1)
              ∙ rest.2
              ∙ ap (λ (n : Option Node). flat_map (λ e. objects_at nodes h e.child) (inner_entries n) ++ objects_on nodes rest.0) (sym sound.1),
        )

    -- the whole walk of a sound tree meets its objects, in order
    pub whole_meets : (t : Live) (pages : List ℕ) → IsSoundTree s nodes t → Tours nodes (t.root ∷ []) pages [] → objects_on nodes pages ≡ objects nodes t
    whole_meets t pages sound walk =
        let all = meets t.height (root_least t.height) _ t.root sound.parts [] pages walk in
        all.2 ∙ ap (λ (ps : List ℕ). objects nodes t ++ objects_on nodes ps) (none_left all.0 all.1) ∙ append-nil (objects nodes t)

    -- in a sound tree no object is out of place
    pub in_place : SoundTreesAreToured → (t : Live) (id : ℕ) → IsSoundTree s nodes t → IsOutOfPlace nodes t id → ⊥
    in_place toured t id sound out =
        let whole = toured s nodes t sound in
        let front = front_of (t.root ∷ []) out.pages whole.pages out.left out.walk whole.walk in
        let met : times_on nodes whole.pages id ≡ due t.count id = ap (λ (os : List LeafEntry). times_among os id) (whole_meets t whole.pages sound whole.walk) ∙ sound.ids id in
        let parts : times_on nodes whole.pages id ≡ times_on nodes out.pages id + times_on nodes front.0 id =
        ap (λ (ps : List ℕ). times_on nodes ps id) front.1 ∙ ap (λ (os : List LeafEntry). times_among os id) (flat_map-append (λ p. leaf_entries (nodes p)) out.pages front.0)
        ∙ among-append (objects_on nodes out.pages) (objects_on nodes front.0) id in
        elim out.wrong [
          | inl more ↦ omega arith
          | inr less ↦
              (let none : front.0 ≡ [] = none_left front.0 (subst (λ (l : List ℕ). Tours nodes l front.0 []) less.0 front.2) in
              let zero : times_on nodes front.0 id ≡ 0 = ap (λ (ps : List ℕ). times_on nodes ps id) none in
              let few = less.1 in
              omega arith)
        ]
