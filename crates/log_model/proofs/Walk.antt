-- A sound walk names the answers in its pages.
use Rattle.std.proofs.Common.{◌≡◌, ℕ, zero, suc, List, [], ◌∷◌, ◌++◌, refl, sym, ap, subst, ◌∙◌, Option, Some}
use Rattle.std.specs.Prelude.{IsTrue, filter, map}
use Rattle.std.specs.List.{AllByRecursion, flat_map}
use Rattle.std.proofs.lemmas.List.Elements.{filter-append}
use Rattle.metric_laws.specs.Space.{Space, IsSpace}
use Rattle.metric_laws.proofs.Published.{all_append, flat_map-append, flat_map-map, filter-flat_map}
use Rattle.scan_model.specs.declared.hit.Hit.{Hit}
use Rattle.tree_shape.specs.declared.entry.LeafEntry.{LeafEntry}
use Rattle.tree_shape.specs.declared.entry.InnerEntry.{InnerEntry}
use Rattle.tree_shape.specs.declared.entry.Node.{Node}
use Rattle.tree_shape.specs.declared.entry.Node.TheVariants.{Leaf, Inner}
use Rattle.tree_shape.specs.Tree.{Nodes, IsSoundAt, IsSoundObject, objects_at}
use Rattle.log_model.specs.declared.marks.Mark.{Mark}
use Rattle.log_model.specs.declared.marks.Mark.TheVariants.{Skip, Far, Near}
use Rattle.log_model.specs.declared.marks.Record.{Record}
use Rattle.log_model.specs.declared.marks.Need.{Need}
use Rattle.log_model.specs.Walk.{Search, WalksBy, AreAllowed, near_ones, needs_of, hits_of, hit_of, need_of}
use Rattle.tree_shape.specs.Fill.{least_for}
use Rattle.tree_shape.proofs.Published.{SoundSubtree}
use Rattle.log_model.proofs.Pruned.{is_answer, FitsAbove, point_above, leaf_marked_near, inner_near}

-- a page that the walk needs, with its level, its least count and the routing entries above it
pub record Spot : Type 0 where
  pub height : ℕ
  pub least : ℕ
  pub above : Option (List ℕ)
  pub page : ℕ

abbrev pub need_at : Search → Spot → Need
need_at f p = record { page = p.page; above = point_above f p.above }

abbrev pub IsSoundSpot : Space → Nodes → Spot → Type 0
IsSoundSpot s nodes p = IsSoundAt s nodes p.height p.least p.above p.page × FitsAbove s p.above

-- the place of a child
abbrev pub spot_of : Space → ℕ → InnerEntry → Spot
spot_of s h e = record { height = h; least = least_for s.dimension; above = Some e.point; page = e.child }

abbrev pub objects_of : Nodes → List Spot → List LeafEntry
objects_of nodes ps = flat_map (λ p. objects_at nodes p.height p.page) ps

-- what the places of children need
pub needs_from_spots : (f : Search) (s : Space) (h : ℕ) (es : List InnerEntry) (ps : List Spot) →
    map (need_of f) es ++ map (need_at f) ps ≡ map (need_at f) (map (spot_of s h) es ++ ps)
needs_from_spots f s h [] ps = refl
needs_from_spots f s h (e ∷ es) ps = ap (λ r. need_of f e ∷ r) (needs_from_spots f s h es ps)

pub near_of_sound : (s : Space) (nodes : Nodes) (h : ℕ) (above : Option (List ℕ)) (es : List InnerEntry) (marks : List Mark) → FitsAbove s above →
    AllByRecursion (SoundSubtree s nodes h above) es → AllByRecursion (IsSoundSpot s nodes) (map (spot_of s h) (near_ones es marks))
near_of_sound s nodes h above [] ms fit all = tt
near_of_sound s nodes h above (e ∷ es) [] fit all = tt
near_of_sound s nodes h above (e ∷ es) (Skip ∷ ms) fit all = near_of_sound s nodes h above es ms fit all.1
near_of_sound s nodes h above (e ∷ es) (Far ∷ ms) fit all = near_of_sound s nodes h above es ms fit all.1
near_of_sound s nodes h above (e ∷ es) (Near ∷ ms) fit all = ((all.0.1, all.0.0.point_fits), near_of_sound s nodes h above es ms fit all.1)

pub map-append : {X Y : Type 0} (g : X → Y) (xs ys : List X) → map g (xs ++ ys) ≡ map g xs ++ map g ys
map-append g [] ys = refl
map-append g (x ∷ xs) ys = ap (λ r. g x ∷ r) (map-append g xs ys)

-- the hits that the answers among these objects make
abbrev pub answers_in : Search → List LeafEntry → List Hit
answers_in f os = map (hit_of f) (filter (is_answer f) os)

pub answers_in-append : (f : Search) (xs ys : List LeafEntry) → answers_in f (xs ++ ys) ≡ answers_in f xs ++ answers_in f ys
answers_in-append f xs ys = ap (map (hit_of f)) (filter-append (is_answer f) xs ys) ∙ map-append (hit_of f) (filter (is_answer f) xs) (filter (is_answer f) ys)

-- what the walk finds at a node: its record's marks, and the walk of what is left
abbrev pub StepAt : Search → Nodes → Option ℕ → List Need → List Mark → List Record → List Hit → Node → Type 0
StepAt f nodes above ns marks rs hits node =
    AreAllowed f above node marks
    × ((rest : List Hit) × WalksBy AreAllowed f nodes (needs_of f node marks ++ ns) rs rest × (hits ≡ hits_of f node marks ++ rest))

pub same_node : (o : Option Node) (m n : Node) → o ≡ Some m → o ≡ Some n → m ≡ n
same_node o m n e g = cc

module _ (f : Search) (axioms : IsSpace f.space) (q_fits : IsTrue (f.space.is_point f.point)) (nodes : Nodes) where
  -- what the walk of the remaining records is known to name
  abbrev pub Names : List Record → Type 0
  Names rs = (ps : List Spot) (hits : List Hit) → AllByRecursion (IsSoundSpot f.space nodes) ps → WalksBy AreAllowed f nodes (map (need_at f) ps) rs hits →
      hits ≡ answers_in f (objects_of nodes ps)

  pub leaf_step : (above : Option (List ℕ)) (ps : List Spot) (marks : List Mark) (rs : List Record) (hits : List Hit) (es : List LeafEntry) →
      Names rs → AllByRecursion (IsSoundSpot f.space nodes) ps → AllByRecursion (IsSoundObject f.space above) es → FitsAbove f.space above →
      StepAt f nodes (point_above f above) (map (need_at f) ps) marks rs hits (Leaf es) →
      hits ≡ answers_in f (es ++ objects_of nodes ps)
  leaf_step above ps marks rs hits es names sounds objects fit step =
      let near = leaf_marked_near f axioms q_fits above fit es marks objects step.0 in
      let others = names ps step.1.0 sounds step.1.1 in
      let named : hits ≡ map (hit_of f) (filter (is_answer f) es) ++ step.1.0 = rw near at step.1.2 in
      let named2 : hits ≡ answers_in f es ++ answers_in f (objects_of nodes ps) = rw others at named in
      named2 ∙ sym (answers_in-append f es (objects_of nodes ps))

  pub inner_step : (h : ℕ) (above : Option (List ℕ)) (ps : List Spot) (marks : List Mark) (rs : List Record) (hits : List Hit) (es : List InnerEntry) →
      Names rs → AllByRecursion (IsSoundSpot f.space nodes) ps → AllByRecursion (SoundSubtree f.space nodes h above) es → FitsAbove f.space above →
      StepAt f nodes (point_above f above) (map (need_at f) ps) marks rs hits (Inner (suc h) es) →
      hits ≡ answers_in f (flat_map (λ e. objects_at nodes h e.child) es ++ objects_of nodes ps)
  inner_step h above ps marks rs hits es names sounds subtrees fit step =
      let kids : List Spot = map (spot_of f.space h) (near_ones es marks) in
      let walk : WalksBy AreAllowed f nodes (map (need_at f) (kids ++ ps)) rs step.1.0 =
      subst (λ (ns : List Need). WalksBy AreAllowed f nodes ns rs step.1.0) (needs_from_spots f f.space h (near_ones es marks) ps) step.1.1 in
      let found = names (kids ++ ps) step.1.0 (all_append (IsSoundSpot f.space nodes) kids ps (near_of_sound f.space nodes h above es marks fit subtrees) sounds) walk in
      let below = flat_map-append (λ p. objects_at nodes p.height p.page) kids ps in
      let within = flat_map-map (λ p. objects_at nodes p.height p.page) (spot_of f.space h) (near_ones es marks) in
      let left = filter-flat_map (is_answer f) (λ e. objects_at nodes h e.child) (near_ones es marks) in
      let right = filter-flat_map (is_answer f) (λ e. objects_at nodes h e.child) es in
      let kept = left ∙ inner_near f axioms q_fits nodes h above fit es marks subtrees step.0 ∙ sym right in
      let parts = answers_in-append f (flat_map (λ e. objects_at nodes h e.child) (near_ones es marks)) (objects_of nodes ps) in
      let whole = answers_in-append f (flat_map (λ e. objects_at nodes h e.child) es) (objects_of nodes ps) in
      let joined : objects_of nodes (kids ++ ps) ≡ flat_map (λ e. objects_at nodes h e.child) (near_ones es marks) ++ objects_of nodes ps =
      below ∙ ap (λ r. r ++ objects_of nodes ps) within in
      step.1.2 ∙ found ∙ ap (answers_in f) joined ∙ parts
      ∙ ap (λ r. map (hit_of f) r ++ answers_in f (objects_of nodes ps)) kept ∙ sym whole

  pub spot_step : (h least : ℕ) (above : Option (List ℕ)) (page : ℕ) (ps : List Spot) (marks : List Mark) (rs : List Record) (hits : List Hit) (node : Node) →
      Names rs → AllByRecursion (IsSoundSpot f.space nodes) ps → IsSoundAt f.space nodes h least above page → FitsAbove f.space above →
      nodes page ≡ Some node → StepAt f nodes (point_above f above) (map (need_at f) ps) marks rs hits node →
      hits ≡ answers_in f (objects_at nodes h page ++ objects_of nodes ps)
  spot_step zero least above page ps marks rs hits node names sounds sound fit is step =
      rw sound.1 (leaf_step above ps marks rs hits sound.0 names sounds sound.3 fit
      (subst (StepAt f nodes (point_above f above) (map (need_at f) ps) marks rs hits) (same_node (nodes page) node (Leaf sound.0) is sound.1) step))
  spot_step (suc h) least above page ps marks rs hits node names sounds sound fit is step =
      rw sound.1 (inner_step h above ps marks rs hits sound.0 names sounds sound.3 fit
      (subst (StepAt f nodes (point_above f above) (map (need_at f) ps) marks rs hits) (same_node (nodes page) node (Inner (suc h) sound.0) is sound.1) step))

  -- the walk names the answers in the needed pages
  pub walk_names : (rs : List Record) → Names rs
  walk_names [] [] hits sounds walk = walk
  walk_names [] (p ∷ ps) hits sounds walk = absurd walk
  walk_names (r ∷ rs) [] hits sounds walk = absurd walk
  walk_names (r ∷ rs) (p ∷ ps) hits sounds walk =
      spot_step p.height p.least p.above p.page ps r.marks rs hits walk.0 (walk_names rs) sounds.1 sounds.0.0 sounds.0.1 walk.1 (walk.3, walk.4)

pub append_nil : {X : Type 0} (xs : List X) → xs ++ [] ≡ xs
append_nil [] = refl
append_nil (x ∷ xs) = ap (λ r. x ∷ r) (append_nil xs)
