-- The walk that collects the objects of a tree.
use Rattle.std.proofs.Common.{◌≡◌, ℕ, zero, suc, ◌+◌, ◌≤◌, List, [], ◌∷◌, ◌++◌, refl, sym, ap, ◌∙◌, append_assoc, subst, Option, Some}
use Rattle.std.specs.Prelude.{IsTrue, map}
use Rattle.std.specs.List.{AllByRecursion, flat_map}
use Rattle.std.proofs.lemmas.List.{append-nil}
use Rattle.metric_laws.specs.Space.{Space}
use Rattle.metric_laws.proofs.Published.{flat_map-append}
use Rattle.tree_shape.specs.declared.entry.InnerEntry.{InnerEntry}
use Rattle.tree_shape.specs.declared.entry.LeafEntry.{LeafEntry}
use Rattle.tree_shape.specs.declared.entry.Node.{Node}
use Rattle.tree_shape.specs.declared.entry.Node.TheVariants.{Leaf, Inner}
use Rattle.tree_shape.specs.declared.live.Live.{Live}
use Rattle.tree_shape.specs.Fill.{least_for, root_least}
use Rattle.tree_shape.specs.Tree.{Nodes, IsSoundAt, IsSoundTree, IsSoundEntry, inner_entries, leaf_entries, objects, objects_at}
use Rattle.page_store.specs.Reading.{nodes_of}
use Rattle.page_store.specs.Shelf.{Shelf, HoldsSame}
use Rattle.page_store.specs.Tours.{Tours, children}
use Rattle.page_store.proofs.Published.{same_some, told_then}
use Rattle.page_tour.specs.Courses.{Course, IsOnTour, OpensNext}
use Rattle.page_tour.proofs.Published.{tour_begins, tour_goes_on}

-- the objects on some pages
abbrev objects_on : Nodes → List ℕ → List LeafEntry
objects_on nodes pages = flat_map (λ page. leaf_entries (nodes page)) pages

-- a walk is on its way, and the objects on the pages that it opened are found
pub record IsCollecting (old now : Shelf) (live : Live) (course : Course) (found : List LeafEntry) : Type 0 where
  pub opened : List ℕ
  pub tour : IsOnTour old now live course opened
  pub are : IsTrue old.is_known → found ≡ objects_on (nodes_of old.read) opened

-- ---- the whole walk of a sound tree meets its objects, in order

module _ (s : Space) (nodes : Nodes) where
  abbrev IsBelow : ℕ → Option (List ℕ) → InnerEntry → Type 0
  IsBelow h above e = IsSoundEntry s above (objects_at nodes h e.child) e × IsSoundAt s nodes h (least_for s.dimension) (Some e.point) e.child

  -- a walk meets these objects, and then goes on to the pages `ps`
  abbrev Meets : List LeafEntry → List ℕ → List ℕ → Type 0
  Meets here ps os = (after : List ℕ) × Tours nodes ps after [] × (objects_on nodes os ≡ here ++ objects_on nodes after)

  entries_met : (h : ℕ) (above : Option (List ℕ)) → ((e : InnerEntry) → IsBelow h above e → (ps os : List ℕ) → Tours nodes (e.child ∷ ps) os [] → Meets (objects_at nodes h e.child) ps os) →
      (es : List InnerEntry) → AllByRecursion (IsBelow h above) es → (ps os : List ℕ) → Tours nodes (map (λ e. e.child) es ++ ps) os [] → Meets (flat_map (λ e. objects_at nodes h e.child) es) ps os
  entries_met h above deep [] all ps os walk = (os, walk, refl)
  entries_met h above deep (e ∷ es) all ps os walk =
      let first = deep e all.0 (map (λ e. e.child) es ++ ps) os walk in
      let rest = entries_met h above deep es all.1 ps first.0 first.1 in (
        rest.0,
        rest.1,
        first.2 ∙ ap (λ (l : List LeafEntry). objects_at nodes h e.child ++ l) rest.2
            ∙ sym (append_assoc (objects_at nodes h e.child) (flat_map (λ e. objects_at nodes h e.child) es) (objects_on nodes rest.0)),
      )

  subtree_met : (h least : ℕ) (above : Option (List ℕ)) (page : ℕ) → IsSoundAt s nodes h least above page → (ps os : List ℕ) → Tours nodes (page ∷ ps) os [] → Meets (objects_at nodes h page) ps os
  subtree_met h least above page sound ps [] walk = absurd (let e : ◌≡◌ {A = List ℕ} [] (page ∷ ps) = walk in cc)
  subtree_met zero least above page sound ps (o ∷ os) walk =
      let node = same_some nodes page walk.0 (Leaf sound.0) walk.1 sound.1 in (
        os,
        subst (λ (m : Node). Tours nodes (children m ++ ps) os []) node walk.3,
        ap (λ (p : ℕ). leaf_entries (nodes p) ++ objects_on nodes os) walk.2,
      )
  subtree_met (suc h) least above page sound ps (o ∷ os) walk =
      let es : List InnerEntry = sound.0 in
      let node = same_some nodes page walk.0 (Inner (suc h) es) walk.1 sound.1 in
      let none : leaf_entries (nodes page) ≡ [] = ap leaf_entries sound.1 in
      let rest = entries_met h above (λ e both. subtree_met h (least_for s.dimension) (Some e.point) e.child both.1) es sound.3 ps os
      (subst (λ (m : Node). Tours nodes (children m ++ ps) os []) node walk.3) in (
        rest.0,
        rest.1,
        ap (λ (p : ℕ). leaf_entries (nodes p) ++ objects_on nodes os) walk.2
            ∙ ap (λ (l : List LeafEntry). l ++ objects_on nodes os) none
            ∙ rest.2
            ∙ ap (λ (n : Option Node). flat_map (λ e. objects_at nodes h e.child) (inner_entries n) ++ objects_on nodes rest.0) (sym sound.1),
      )

  tree_met : (live : Live) (pages : List ℕ) → IsSoundTree s nodes live → Tours nodes (live.root ∷ []) pages [] → objects_on nodes pages ≡ objects nodes live
  tree_met live pages sound walk = done (subtree_met live.height (root_least live.height) _ live.root sound.parts [] pages walk)
    where
      done : Meets (objects nodes live) [] pages → objects_on nodes pages ≡ objects nodes live
      done ([], walk, met) = met ∙ append-nil (objects nodes live)
      done (o ∷ os, walk, met) = absurd walk

-- ---- one step of the walk

module _ (old now : Shelf) (live : Live) where
  pub begins : (course : Course) → course ≡ record { coming = live.root ∷ []; opened = 0; most = live.pages } → IsCollecting old old live course []
  begins course is = record { opened = []; tour = tour_begins old live course is; are = λ is_known. refl }

  pub goes_on : (new : Shelf) (course next : Course) (found : List LeafEntry) (page : ℕ) (node : Node) → IsCollecting old now live course found → OpensNext now new course next page node → HoldsSame now new →
      new.reads ≤ now.reads + 1 → IsCollecting old new live next (found ++ leaf_entries (Some node))
  goes_on new course next found page node before opens same reads = record {
    opened = before.opened ++ page ∷ [];
    tour = tour_goes_on old live now new course before.opened before.tour next page node opens same reads;
    are = λ is_known.
        let nodes = nodes_of old.read in
        ap (λ (l : List LeafEntry). l ++ leaf_entries (Some node)) (before.are is_known)
        ∙ ap (λ o. objects_on nodes before.opened ++ leaf_entries o) (sym (told_then old now page node before.tour.same opens.is is_known))
        ∙ sym (flat_map-append (λ p. leaf_entries (nodes p)) before.opened (page ∷ []) ∙ ap (λ (l : List LeafEntry). objects_on nodes before.opened ++ l) (append-nil (leaf_entries (nodes page))));
  }

  pub ends : (course : Course) (found : List LeafEntry) → IsCollecting old now live course found → course.coming ≡ [] → IsTrue old.is_known → (s : Space) → IsSoundTree s (nodes_of old.read) live →
      found ≡ objects (nodes_of old.read) live
  ends course found done none is_known s sound =
      done.are is_known ∙ tree_met s (nodes_of old.read) live done.opened sound (subst (λ (c : List ℕ). Tours (nodes_of old.read) (live.root ∷ []) done.opened c) none (done.tour.walk is_known))
