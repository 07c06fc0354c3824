-- The walk that draws the shape of a tree.
use Rattle.std.proofs.Common.{◌≡◌, ℕ, zero, suc, ◌+◌, ◌<◌, ◌≤◌, List, [], ◌∷◌, ◌++◌, refl, sym, ap, ◌∙◌, arith, length, length-append, append_assoc, subst, Option, Some, None}
use Rattle.std.specs.Prelude.{IsTrue, map}
use Rattle.std.specs.List.{AllByRecursion, flat_map}
use Rattle.std.proofs.lemmas.List.{append-nil}
use Rattle.metric_laws.specs.Space.{Space}
use Rattle.metric_laws.specs.Counts.{next_count, count_up}
use Rattle.metric_laws.proofs.Published.{all_append, flat_map-append, flat_map-map}
use Rattle.tree_shape.specs.declared.entry.InnerEntry.{InnerEntry}
use Rattle.tree_shape.specs.declared.entry.Node.{Node}
use Rattle.tree_shape.specs.declared.entry.Node.TheVariants.{Leaf, Inner}
use Rattle.tree_shape.specs.declared.live.Live.{Live}
use Rattle.tree_shape.specs.Fill.{least_for, root_least}
use Rattle.tree_shape.specs.Tree.{Nodes, IsSoundAt, IsSoundTree, IsSoundEntry, objects_at, inner_entries}
use Rattle.page_store.specs.declared.pages.PageFault.{PageFault}
use Rattle.page_store.specs.declared.pages.PageFault.TheVariants.{Repeats}
use Rattle.page_store.specs.Reading.{nodes_of}
use Rattle.page_store.specs.Shelf.{Shelf, HoldsSame, HasPageCause, IsPassing}
use Rattle.page_store.specs.Tours.{children, Tours, Names, HasTourCause}
use Rattle.page_store.proofs.Published.{page_stops, tour_passes, holds_both, holds_none, told_then}
use Rattle.log_model.proofs.Published.{count_up_more, same_node}
use Rattle.tree_outline.specs.declared.outline.ShapeLine.{ShapeLine}
use Rattle.tree_outline.specs.declared.outline.Named.{Named}
use Rattle.tree_outline.specs.Shapes.{root_named, named_by, line_of, lines_of, lines_at, tree_lines, IsDrawn, Spot, IsSoundSpot, AreFront, IsDrawing, DrawsTo}

-- the lines of the subtrees that are still to come
abbrev pub left_lines : Nodes → List Spot → List ShapeLine
left_lines nodes spots = flat_map (λ p. lines_at nodes p.height p.named) spots

-- ---- where nothing but the tree's nodes is to come

module _ (s : Space) (nodes : Nodes) (t : Live) where
  pub front_begins : IsSoundTree s nodes t → AreFront s nodes t [] (root_named t.root ∷ [])
  front_begins sound = record {
    spots = record { named = root_named t.root; height = t.height; least = root_least t.height; above = None } ∷ [];
    sound = (sound.parts, tt);
    are = refl;
    whole = append-nil (tree_lines nodes t);
  }

  -- the subtrees of a node's entries
  abbrev spots_of : ℕ → List InnerEntry → List Spot
  spots_of h es = map (λ e. record { named = named_by e; height = h; least = least_for s.dimension; above = Some e.point }) es

  spots_sound : (h : ℕ) (above : Option (List ℕ)) (es : List InnerEntry) →
      AllByRecursion (λ e. IsSoundEntry s above (objects_at nodes h e.child) e × IsSoundAt s nodes h (least_for s.dimension) (Some e.point) e.child) es →
      AllByRecursion (IsSoundSpot s nodes) (spots_of h es)
  spots_sound h above [] all = tt
  spots_sound h above (e ∷ es) all = (all.0.1, spots_sound h above es all.1)

  spots_named : (h : ℕ) (es : List InnerEntry) (ps : List Spot) → map named_by es ++ map (λ p. p.named) ps ≡ map (λ p. p.named) (spots_of h es ++ ps)
  spots_named h [] ps = refl
  spots_named h (e ∷ es) ps = ap (λ (r : List Named). named_by e ∷ r) (spots_named h es ps)

  -- one spot of the front is opened
  opened : (lines : List ShapeLine) (n : Named) (node : Node) (h least : ℕ) (above : Option (List ℕ)) (ps : List Spot) → IsSoundAt s nodes h least above n.page → AllByRecursion (IsSoundSpot s nodes) ps → nodes n.page ≡ Some node →
      lines ++ (lines_at nodes h n ++ left_lines nodes ps) ≡ tree_lines nodes t →
      AreFront s nodes t (lines ++ line_of n node ∷ []) (map named_by (inner_entries (Some node)) ++ map (λ p. p.named) ps)
  opened lines n node zero least above ps sound sounds is whole =
      let leaf : node ≡ Leaf sound.0 = same_node (nodes n.page) node (Leaf sound.0) is sound.1 in
      record {
        spots = ps;
        sound = sounds;
        are = ap (λ (m : Node). map named_by (inner_entries (Some m)) ++ map (λ p. p.named) ps) leaf;
        whole = append_assoc lines (line_of n node ∷ []) (left_lines nodes ps) ∙ ap (λ (o : Option Node). lines ++ (lines_of n o ++ left_lines nodes ps)) (sym is) ∙ whole;
      }
  opened lines n node (suc h) least above ps sound sounds is whole =
      let es : List InnerEntry = sound.0 in
      let inner : node ≡ Inner (suc h) es = same_node (nodes n.page) node (Inner (suc h) es) is sound.1 in
      let kids : List ShapeLine = flat_map (λ e. lines_at nodes h (named_by e)) es in
      let joined : left_lines nodes (spots_of h es ++ ps) ≡ kids ++ left_lines nodes ps =
      flat_map-append (λ p. lines_at nodes p.height p.named) (spots_of h es) ps
      ∙ ap (λ (r : List ShapeLine). r ++ left_lines nodes ps) (flat_map-map (λ p. lines_at nodes p.height p.named) (λ (e : InnerEntry). record { named = named_by e; height = h; least = least_for s.dimension; above = Some e.point }) es) in
      let here : lines_at nodes (suc h) n ≡ line_of n node ∷ kids =
      ap (λ (o : Option Node). lines_of n o ++ flat_map (λ e. lines_at nodes h (named_by e)) (inner_entries o)) is
      ∙ ap (λ (m : Node). line_of n node ∷ flat_map (λ e. lines_at nodes h (named_by e)) (inner_entries (Some m))) inner in
      record {
        spots = spots_of h es ++ ps;
        sound = all_append (IsSoundSpot s nodes) (spots_of h es) ps (spots_sound h above es sound.3) sounds;
        are = ap (λ (m : Node). map named_by (inner_entries (Some m)) ++ map (λ p. p.named) ps) inner ∙ spots_named h es ps;
        whole = append_assoc lines (line_of n node ∷ []) (left_lines nodes (spots_of h es ++ ps))
            ∙ ap (λ (r : List ShapeLine). lines ++ line_of n node ∷ r) joined
            ∙ ap (λ (r : List ShapeLine). lines ++ (r ++ left_lines nodes ps)) (sym here) ∙ whole;
      }

  pub front_goes_on : (lines : List ShapeLine) (n : Named) (rest : List Named) (node : Node) → nodes n.page ≡ Some node → AreFront s nodes t lines (n ∷ rest) →
      AreFront s nodes t (lines ++ line_of n node ∷ []) (map named_by (inner_entries (Some node)) ++ rest)
  front_goes_on lines n rest node is front = from front.spots front.sound front.are front.whole
    where
      from : (spots : List Spot) → AllByRecursion (IsSoundSpot s nodes) spots → ◌≡◌ {A = List Named} (n ∷ rest) (map (λ p. p.named) spots) → lines ++ left_lines nodes spots ≡ tree_lines nodes t →
          AreFront s nodes t (lines ++ line_of n node ∷ []) (map named_by (inner_entries (Some node)) ++ rest)
      from [] sounds are whole = absurd (cc)
      from (p ∷ ps) sounds are whole =
          let first : n ≡ p.named = cc in
          let others : rest ≡ map (λ p. p.named) ps = cc in
          subst (λ (r : List Named). AreFront s nodes t (lines ++ line_of n node ∷ []) (map named_by (inner_entries (Some node)) ++ r)) (sym others)
          (opened lines n node p.height p.least p.above ps (subst (λ (m : Named). IsSoundAt s nodes p.height p.least p.above m.page) (sym first) sounds.0) sounds.1 is
          (ap (λ (m : Named). lines ++ (lines_at nodes p.height m ++ left_lines nodes ps)) first ∙ whole))

  pub front_ends : (lines : List ShapeLine) → AreFront s nodes t lines [] → lines ≡ tree_lines nodes t
  front_ends lines front = from front.spots front.are front.whole
    where
      from : (spots : List Spot) → ◌≡◌ {A = List Named} [] (map (λ p. p.named) spots) → lines ++ left_lines nodes spots ≡ tree_lines nodes t → lines ≡ tree_lines nodes t
      from [] are whole = sym (append-nil lines) ∙ whole
      from (p ∷ ps) are whole = absurd (cc)

-- ---- one step of the walk

-- one more node is opened
draws_more : (nodes : Nodes) (ns : List Named) (lines : List ShapeLine) (n : Named) (rest : List Named) (node : Node) → nodes n.page ≡ Some node → DrawsTo nodes ns lines (n ∷ rest) →
    DrawsTo nodes ns (lines ++ line_of n node ∷ []) (map named_by (inner_entries (Some node)) ++ rest)
draws_more nodes [] [] n rest node is walk = absurd (let e : ◌≡◌ {A = List Named} (n ∷ rest) [] = walk in cc)
draws_more nodes (m ∷ ms) [] n rest node is walk =
    let first : n ≡ m = cc (walk) in
    let others : rest ≡ ms = cc (walk) in (
      node,
      subst (λ (k : Named). nodes k.page ≡ Some node) first is,
      ap (λ (k : Named). line_of k node) first,
      ap (λ (l : List Named). map named_by (inner_entries (Some node)) ++ l) others,
    )
draws_more nodes [] (l ∷ ls) n rest node is walk = absurd walk
draws_more nodes (m ∷ ms) (l ∷ ls) n rest node is walk = (walk.0, walk.1, walk.2, draws_more nodes (map named_by (inner_entries (Some walk.0)) ++ ms) ls n rest node is walk.3)

-- ---- the pages that it opens make a walk by child numbers

abbrev pages_of : List Named → List ℕ
pages_of ns = map (λ n. n.page) ns

pages_named : (node : Node) (ns : List Named) → pages_of (map named_by (inner_entries (Some node)) ++ ns) ≡ children node ++ pages_of ns
pages_named (Leaf es) ns = refl
pages_named (Inner level es) ns = each es
  where
    each : (es : List InnerEntry) → pages_of (map named_by es ++ ns) ≡ map (λ e. e.child) es ++ pages_of ns
    each [] = refl
    each (e ∷ es) = ap (λ (ps : List ℕ). e.child ∷ ps) (each es)

tour_of : (nodes : Nodes) (ns : List Named) (lines : List ShapeLine) (left : List Named) → DrawsTo nodes ns lines left →
    (os : List ℕ) × Tours nodes (pages_of ns) os (pages_of left) × (length os ≡ length lines)
tour_of nodes ns [] left walk = ([], ap pages_of walk, refl)
tour_of nodes [] (l ∷ ls) left walk = absurd walk
tour_of nodes (n ∷ ns) (l ∷ ls) left walk =
    let deep = tour_of nodes (map named_by (inner_entries (Some walk.0)) ++ ns) ls left walk.3 in
    (n.page ∷ deep.0, (walk.0, walk.1, refl, subst (λ (ps : List ℕ). Tours nodes ps deep.0 (pages_of left)) (pages_named walk.0 ns) deep.1), ap suc deep.2)

module _ (old : Shelf) (t : Live) where
  pub begins : IsDrawing old old t [] (root_named t.root ∷ [])
  begins = record {
    same = holds_none old;
    asked = refl;
    reads = omega arith;
    walk = λ is_known. refl;
    front = λ is_known s sound. front_begins s (nodes_of old.read) t sound;
  }

  module _ (now : Shelf) (lines : List ShapeLine) (n : Named) (rest : List Named) (before : IsDrawing old now t lines (n ∷ rest)) where
    pub goes_on : (new : Shelf) (lines' : List ShapeLine) (coming : List Named) → HoldsSame now new → new.asked ≡ next_count now.asked → new.reads ≤ now.reads + 1 → IsDrawn now n lines lines' rest coming →
        IsDrawing old new t lines' coming
    goes_on new lines' coming same asked reads drawn =
        let long : length lines' ≡ suc (length lines) = ap length drawn.line ∙ length-append lines (line_of n drawn.node ∷ []) ∙ omega arith in
        record {
          same = holds_both old now new before.same same;
          asked = asked ∙ ap next_count before.asked ∙ count_up_more old.asked (length lines) ∙ ap (count_up old.asked) (sym long);
          reads = (let b = before.reads in omega arith);
          walk = λ is_known.
              subst (λ (c : List Named). DrawsTo (nodes_of old.read) (root_named t.root ∷ []) lines' c) (sym drawn.named)
              (subst (λ (l : List ShapeLine). DrawsTo (nodes_of old.read) (root_named t.root ∷ []) l (map named_by (inner_entries (Some drawn.node)) ++ rest)) (sym drawn.line)
              (draws_more (nodes_of old.read) (root_named t.root ∷ []) lines n rest drawn.node (told_then old now n.page drawn.node before.same drawn.is is_known) (before.walk is_known)));
          front = λ is_known s sound.
              subst (λ (c : List Named). AreFront s (nodes_of old.read) t lines' c) (sym drawn.named)
              (subst (λ (l : List ShapeLine). AreFront s (nodes_of old.read) t l (map named_by (inner_entries (Some drawn.node)) ++ rest)) (sym drawn.line)
              (front_goes_on s (nodes_of old.read) t lines n rest drawn.node (told_then old now n.page drawn.node before.same drawn.is is_known) (before.front is_known s sound)));
        }

    names_next : IsTrue old.is_known → Names (nodes_of old.read) t.root (length lines) n.page
    names_next is_known =
        let way = tour_of (nodes_of old.read) (root_named t.root ∷ []) lines (n ∷ rest) (before.walk is_known) in
        record { before = way.0; rest = pages_of rest; walk = way.1; count = way.2 }

    pub refused : length lines < t.pages → (new : Shelf) (fault : PageFault) → HasPageCause now new n.page fault → HasTourCause t old new fault
    refused low new fault cause = page_stops t old now new (length lines) n.page before.same low names_next fault cause

    pub repeats : length lines ≡ t.pages → HasTourCause t old now (Repeats n.page)
    repeats all = (before.asked ∙ ap (count_up old.asked) all, λ is_known. subst (λ (k : ℕ). Names (nodes_of old.read) t.root k n.page) all (names_next is_known))

    -- on a sound tree nothing but a passing fault is refused
    pub has_room : length lines ≡ t.pages → IsTrue old.is_known → (s : Space) → IsSoundTree s (nodes_of old.read) t → ⊥
    has_room all is_known s sound = tour_passes s t old now (Repeats n.page) (repeats all) is_known sound

    pub passes : length lines < t.pages → (new : Shelf) (fault : PageFault) → HasPageCause now new n.page fault → IsTrue old.is_known → (s : Space) → IsSoundTree s (nodes_of old.read) t → IsPassing fault
    passes low new fault cause is_known s sound = tour_passes s t old new fault (refused low new fault cause) is_known sound

  pub ends : (now : Shelf) (lines : List ShapeLine) → IsDrawing old now t lines [] → IsTrue old.is_known → (s : Space) → IsSoundTree s (nodes_of old.read) t → lines ≡ tree_lines (nodes_of old.read) t
  ends now lines drawing is_known s sound = front_ends s (nodes_of old.read) t lines (drawing.front is_known s sound)
