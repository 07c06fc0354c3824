-- What the walk of a log meets on a sound tree.
use Rattle.std.proofs.Common.{◌≡◌, ◌⊎◌, ℕ, zero, suc, ◌+◌, ◌<◌, ◌≤◌, Bool, true, false, List, [], ◌∷◌, ◌++◌, map, length, take, Option, Some, None, Err, refl, sym, ap, subst, ◌∙◌, arith, inl, inr}
use Rattle.std.specs.Prelude.{IsTrue, if◌then◌else◌, ◌==◌, nat_lt, slice_index_or}
use Rattle.std.specs.List.{AllByRecursion, AllZip, flat_map}
use Rattle.std.proofs.lemmas.Slice.Zip.{AllZip-long}
use Rattle.std.proofs.lemmas.Bool.Decides.{nat_tests}
use Rattle.metric_laws.specs.Lists.{IsIn}
use Rattle.metric_laws.specs.Space.{Space}
use Rattle.metric_laws.proofs.Published.{all_append, all_flat_map, all_in, flat_map-append, flat_map-map, map-in, in-map}
use Rattle.scan_model.specs.declared.hit.Hit.{Hit}
use Rattle.scan_model.specs.declared.query.Query.{Query}
use Rattle.scan_model.specs.declared.query.Query.TheVariants.{Range, Nearest}
use Rattle.tree_shape.specs.declared.entry.LeafEntry.{LeafEntry}
use Rattle.tree_shape.specs.declared.entry.InnerEntry.{InnerEntry}
use Rattle.tree_shape.specs.declared.entry.Node.{Node}
use Rattle.tree_shape.specs.declared.entry.Node.TheVariants.{Leaf, Inner}
use Rattle.tree_shape.specs.declared.live.Live.{Live}
use Rattle.tree_shape.specs.Fill.{root_least}
use Rattle.tree_shape.specs.Tree.{Nodes, IsSoundAt, IsSoundTree, objects, objects_at, times, tag_of, tags_from, tags_by_id}
use Rattle.tree_shape.proofs.Published.{ids_of, times-in}
use Rattle.page_store.proofs.Published.{tag_of-in, once_counted}
use Rattle.page_store.specs.declared.pages.PageFault.{PageFault}
use Rattle.page_store.specs.declared.pages.PageFault.TheVariants.{Disk, Bad, Outside, Memory, Repeats, Level}
use Rattle.page_store.specs.Reading.{nodes_of, node_or_none}
use Rattle.page_store.specs.Shelf.{Shelf, IsPassing}
use Rattle.log_model.specs.declared.marks.Mark.{Mark}
use Rattle.log_model.specs.declared.marks.Mark.TheVariants.{Skip, Far, Near}
use Rattle.log_model.specs.declared.marks.Record.{Record}
use Rattle.log_model.specs.declared.marks.Need.{Need}
use Rattle.log_model.specs.declared.logs.Found.{Found}
use Rattle.log_model.specs.Counts.{entry_count}
use Rattle.log_model.specs.InOrder.{in_order, hit_before}
use Rattle.log_model.specs.Walk.{Search, WalksBy, AreAllowed, allows_object, allows_subtree, near_ones, needs_of, hits_of, hit_of, root_need}
use Rattle.log_model.specs.Sound.{selected, search_for}
use Rattle.log_model.proofs.Published.{in-in_order, hit_order, Spot, IsSoundSpot, spot_of, objects_of, near_of_sound, same_node, map-append, marks_node, marked_is, met_none, near_needs, pages_needed}
use Rattle.log_model.specs.Met.{near_objects, near_pages, marked_node, met_from, met}
use Rattle.hit_tags.specs.Comes.{ComesTo}
use Rattle.hit_tags.specs.Tags.{tags_among, IsOwnTag, met_tags, object_tags, IsShown, HasTagsCause}

abbrev pub pages_in : List Spot → List ℕ
pages_in ps = map (λ p. p.page) ps

near_all : {X : Type 0} (P : X → Type 0) (es : List X) (ms : List Mark) → AllByRecursion P es → AllByRecursion P (near_ones es ms)
near_all P [] ms all = tt
near_all P (e ∷ es) [] all = tt
near_all P (e ∷ es) (Skip ∷ ms) all = near_all P es ms all.1
near_all P (e ∷ es) (Far ∷ ms) all = near_all P es ms all.1
near_all P (e ∷ es) (Near ∷ ms) all = (all.0, near_all P es ms all.1)

append_all : {X : Type 0} (P : X → Type 0) (xs ys : List X) → AllByRecursion P (xs ++ ys) → AllByRecursion P xs × AllByRecursion P ys
append_all P [] ys all = (tt, all)
append_all P (x ∷ xs) ys all = let both = append_all P xs ys all.1 in ((all.0, both.0), both.1)

each_all : {X Y : Type 0} (P : Y → Type 0) (f : X → List Y) (xs : List X) → AllByRecursion P (flat_map f xs) → AllByRecursion (λ x. AllByRecursion P (f x)) xs
each_all P f [] all = tt
each_all P f (x ∷ xs) all = let both = append_all P (f x) (flat_map f xs) all in (both.0, each_all P f xs both.1)

child_pages : (s : Space) (h : ℕ) (es : List InnerEntry) (ps : List Spot) → map (λ e. e.child) es ++ pages_in ps ≡ pages_in (map (spot_of s h) es ++ ps)
child_pages s h [] ps = refl
child_pages s h (e ∷ es) ps = ap (λ (r : List ℕ). e.child ∷ r) (child_pages s h es ps)

module _ (s : Space) (nodes : Nodes) (P : LeafEntry → Type 0) where
  -- a sound page is opened: its objects that are marked Near, and the sound pages that come next
  record IsOpened (node : Node) (marks : List Mark) (ps : List Spot) : Type 0 where
    pub spots : List Spot
    pub sound : AllByRecursion (IsSoundSpot s nodes) spots
    pub are : near_pages node marks ++ pages_in ps ≡ pages_in spots
    pub objects : AllByRecursion P (near_objects node marks)
    pub below : AllByRecursion P (objects_of nodes spots)

  opened : (h : ℕ) (p : Spot) (node : Node) (marks : List Mark) (ps : List Spot) → p.height ≡ h → IsSoundSpot s nodes p → AllByRecursion (IsSoundSpot s nodes) ps → nodes p.page ≡ Some node →
      AllByRecursion P (objects_of nodes (p ∷ ps)) → IsOpened node marks ps
  opened h p node marks ps is sound sounds there all = at h (subst (λ (k : ℕ). IsSoundAt s nodes k p.least p.above p.page) is sound.0) (subst (λ (k : ℕ). AllByRecursion P (objects_at nodes k p.page ++ objects_of nodes ps)) is all)
    where
      at : (k : ℕ) → IsSoundAt s nodes k p.least p.above p.page → AllByRecursion P (objects_at nodes k p.page ++ objects_of nodes ps) → IsOpened node marks ps
      at zero here all =
          let leaf : node ≡ Leaf here.0 = same_node (nodes p.page) node (Leaf here.0) there here.1 in
          let both = append_all P here.0 (objects_of nodes ps) (rw here.1 at all) in
          rw leaf (record { spots = ps; sound = sounds; are = refl; objects = near_all P here.0 marks both.0; below = both.1 })
      at (suc k) here all =
          let es : List InnerEntry = here.0 in
          let inner : node ≡ Inner (suc k) es = same_node (nodes p.page) node (Inner (suc k) es) there here.1 in
          let both = append_all P (flat_map (λ e. objects_at nodes k e.child) es) (objects_of nodes ps) (rw here.1 at all) in
          let kids : List Spot = map (spot_of s k) (near_ones es marks) in
          let near = all_flat_map P (λ e. objects_at nodes k e.child) (near_ones es marks) (near_all (λ e. AllByRecursion P (objects_at nodes k e.child)) es marks (each_all P (λ e. objects_at nodes k e.child) es both.0)) in
          let joined : objects_of nodes (kids ++ ps) ≡ flat_map (λ e. objects_at nodes k e.child) (near_ones es marks) ++ objects_of nodes ps =
          flat_map-append (λ p. objects_at nodes p.height p.page) kids ps
          ∙ ap (λ r. r ++ objects_of nodes ps) (flat_map-map (λ p. objects_at nodes p.height p.page) (spot_of s k) (near_ones es marks)) in
          rw inner (record {
            spots = kids ++ ps;
            sound = all_append (IsSoundSpot s nodes) kids ps (near_of_sound s nodes k p.above es marks sound.1 here.3) sounds;
            are = child_pages s k (near_ones es marks) ps;
            objects = tt;
            below = rw joined (all_append P (flat_map (λ e. objects_at nodes k e.child) (near_ones es marks)) (objects_of nodes ps) near both.1);
          })

  -- what is met has what all objects below have
  pub met_all : (rs : List Record) (ps : List Spot) → AllByRecursion (IsSoundSpot s nodes) ps → AllByRecursion P (objects_of nodes ps) → AllByRecursion P (met nodes (pages_in ps) rs)
  met_all [] ps sounds all = subst (AllByRecursion P) (sym (met_none nodes (pages_in ps))) tt
  met_all (r ∷ rs) [] sounds all = tt
  met_all (r ∷ rs) (p ∷ ps) sounds all = cases (met_all rs) (marked_node nodes p.page r) refl
    where
      cases : ((qs : List Spot) → AllByRecursion (IsSoundSpot s nodes) qs → AllByRecursion P (objects_of nodes qs) → AllByRecursion P (met nodes (pages_in qs) rs)) →
          (o : Option Node) → marked_node nodes p.page r ≡ o → AllByRecursion P (met_from o (λ node. near_objects node r.marks ++ met nodes (near_pages node r.marks ++ pages_in ps) rs))
      cases later None is = tt
      cases later (Some node) is =
          let o = opened p.height p node r.marks ps refl sounds.0 sounds.1 (marked_is nodes p.page r node is) all in
          all_append P (near_objects node r.marks) (met nodes (near_pages node r.marks ++ pages_in ps) rs) o.objects
          (subst (λ (ns : List ℕ). AllByRecursion P (met nodes ns rs)) (sym o.are) (later o.spots o.sound o.below))

-- a page that the walk reaches holds a node
all_none : (es : List LeafEntry) → AllByRecursion (λ e. Unit {0}) es
all_none [] = tt
all_none (e ∷ es) = (tt, all_none es)

pub comes_inside : (s : Space) (nodes : Nodes) (rs : List Record) (ps : List Spot) (page : ℕ) → AllByRecursion (IsSoundSpot s nodes) ps → ComesTo nodes (pages_in ps) rs page → (node : Node) × (nodes page ≡ Some node)
comes_inside s nodes [] [] page sounds comes = absurd comes
comes_inside s nodes [] (p ∷ ps) page sounds comes = absurd comes
comes_inside s nodes (r ∷ rs) [] page sounds comes = absurd comes
comes_inside s nodes (r ∷ rs) (p ∷ ps) page sounds comes = elim comes [
  | inl here ↦ subst (λ (k : ℕ). (node : Node) × (nodes k ≡ Some node)) (sym here.0) (node_of p.height p.least p.above p.page sounds.0.0)
  | inr later ↦
      let o = opened s nodes (λ e. Unit {0}) p.height p later.0 r.marks ps refl sounds.0 sounds.1 (marked_is nodes p.page r later.0 later.1) (all_none (objects_of nodes (p ∷ ps))) in
      comes_inside s nodes rs o.spots page o.sound (subst (λ (ns : List ℕ). ComesTo nodes ns rs page) o.are later.2)
]
  where
    node_of : (h least : ℕ) (above : Option (List ℕ)) (page : ℕ) → IsSoundAt s nodes h least above page → (node : Node) × (nodes page ≡ Some node)
    node_of zero least above page here = (Leaf here.0, here.1)
    node_of (suc h) least above page here = (Inner (suc h) here.0, here.1)

abbrev pub root_spot : Live → Spot
root_spot t = record { height = t.height; least = root_least t.height; above = None; page = t.root }

-- on a sound tree only a passing fault stops the walk
pub passes : (s : Space) (old new : Shelf) (t : Live) (rs : List Record) (fault : PageFault) → IsTrue old.is_known → IsSoundTree s (nodes_of old.read) t → HasTagsCause old new (t.root ∷ []) rs fault → IsPassing fault
passes s old new t rs fault is_known sound = at fault
  where
    no_node : (page : ℕ) (f : PageFault) → ComesTo (nodes_of old.read) (t.root ∷ []) rs page → old.read page ≡ Err f → ⊥
    no_node page f comes is =
        let there = comes_inside s (nodes_of old.read) rs (root_spot t ∷ []) page ((sound.parts, tt), tt) comes in
        let some : nodes_of old.read page ≡ Some there.0 = there.1 in
        let none : nodes_of old.read page ≡ None = ap node_or_none is in
        absurd (cc)

    at : (f : PageFault) → HasTagsCause old new (t.root ∷ []) rs f → IsPassing f
    at Memory cause = tt
    at Disk cause = tt
    at (Bad p f) cause = no_node cause.0 (Bad cause.0 f) (cause.2 is_known) (cause.1.2 is_known)
    at (Outside p) cause = no_node cause.0 (Outside cause.0) (cause.2 is_known) (cause.1.2 is_known)
    at (Repeats p) cause = cause.1
    at (Level p) cause = cause.1

-- ---- tags

-- where the tags of some objects are those in a list that has each id once, the tag that is met for an id is the tag in the list
tag_same : (id : ℕ) (os es : List LeafEntry) → AllByRecursion (λ e. tag_of e.id os ≡ e.tag) es → IsIn id (ids_of es) → tag_of id es ≡ tag_of id os
tag_same id os [] all k = absurd k
tag_same id os (e ∷ es) all k = cases (tag_same id os es all.1) (e.id == id) refl
  where
    cases : (IsIn id (ids_of es) → tag_of id es ≡ tag_of id os) → (b : Bool) → (e.id == id) ≡ b → (if b then e.tag else tag_of id es) ≡ tag_of id os
    cases ih true is = let same : e.id ≡ id = grind (arith, nat_tests) in sym all.0 ∙ ap (λ (i : ℕ). tag_of i os) same
    cases ih false is = elim k [ inr later ↦ ih later | inl here ↦ absurd (wrong here) ]
      where
        wrong : id ≡ e.id → ⊥
        wrong same = grind (arith, nat_tests)

each_tag : (os es : List LeafEntry) → ((id : ℕ) → times id (ids_of os) ≤ 1) → ((e : LeafEntry) → IsIn e es → IsIn e os) → AllByRecursion (λ e. tag_of e.id os ≡ e.tag) es
each_tag os [] once among = tt
each_tag os (e ∷ es) once among = (tag_of-in os e (among e (inl refl)) (once e.id), each_tag os es once (λ o k. among o (inr k)))

tag_at : (es : List LeafEntry) (i n k : ℕ) → k < n → slice_index_or (tags_from es i n) k 0 ≡ tag_of (i + k) es
tag_at es i zero k low = absurd (let f : ⊥ = omega arith in f)
tag_at es i (suc n) zero low = ap (λ (j : ℕ). tag_of j es) (let e : i ≡ i + 0 = omega arith in e)
tag_at es i (suc n) (suc k) low = tag_at es (i + 1) n k (omega arith) ∙ ap (λ (j : ℕ). tag_of j es) (let e : i + 1 + k ≡ i + suc k = omega arith in e)

-- ---- a sound log's answers are met

ids_near : (f : Search) (es : List LeafEntry) → map (λ h. h.id) (map (hit_of f) es) ≡ ids_of es
ids_near f [] = refl
ids_near f (e ∷ es) = ap (λ (r : List ℕ). e.id ∷ r) (ids_near f es)

ids_named : (f : Search) (node : Node) (marks : List Mark) → map (λ h. h.id) (hits_of f node marks) ≡ ids_of (near_objects node marks)
ids_named f (Leaf es) marks = ids_near f (near_ones es marks)
ids_named f (Inner level es) marks = refl

allowed_long : (f : Search) (above : Option ℕ) (node : Node) (marks : List Mark) → AreAllowed f above node marks → length marks ≡ entry_count node
allowed_long f above (Leaf es) marks all = AllZip-long (λ e m. IsTrue (allows_object f above e m)) es marks all
allowed_long f above (Inner level es) marks all = AllZip-long (λ e m. IsTrue (allows_subtree f above e m)) es marks all

-- the ids of the hits that the walk of a sound log names are those of the objects that it meets
pub walk_ids : (f : Search) (nodes : Nodes) (rs : List Record) (ns : List Need) (hits : List Hit) → WalksBy AreAllowed f nodes ns rs hits → map (λ h. h.id) hits ≡ ids_of (met nodes (pages_needed ns) rs)
walk_ids f nodes [] [] hits walk = ap (λ (hs : List Hit). map (λ h. h.id) hs) walk
walk_ids f nodes [] (n ∷ ns) hits walk = absurd walk
walk_ids f nodes (r ∷ rs) [] hits walk = absurd walk
walk_ids f nodes (r ∷ rs) (n ∷ ns) hits walk =
    let node : Node = walk.0 in
    let marked = marks_node nodes n.page r node walk.2 walk.1 (allowed_long f n.above node r.marks walk.3) in
    let later = walk_ids f nodes rs (needs_of f node r.marks ++ ns) walk.4.0 walk.4.1 in
    rw marked (ap (λ (hs : List Hit). map (λ h. h.id) hs) walk.4.2 ∙ map-append (λ h. h.id) (hits_of f node r.marks) walk.4.0
    ∙ ap (λ (is : List ℕ). is ++ map (λ h. h.id) walk.4.0) (ids_named f node r.marks)
    ∙ ap (λ (is : List ℕ). ids_of (near_objects node r.marks) ++ is) (later ∙ ap (λ (ps : List ℕ). ids_of (met nodes ps rs)) (sym (near_needs f node r.marks ns)))
    ∙ sym (map-append (λ e. e.id) (near_objects node r.marks) (met nodes (near_pages node r.marks ++ pages_needed ns) rs)))

in-take : {X : Type 0} (k : ℕ) (xs : List X) (x : X) → IsIn x (take k xs) → IsIn x xs
in-take zero xs x here = absurd here
in-take (suc k) [] x here = absurd here
in-take (suc k) (y ∷ ys) x here = elim here [ inl e ↦ inl e | inr w ↦ inr (in-take k ys x w) ]

selected_in : (query : Query) (hits : List Hit) (h : Hit) → IsIn h (selected query hits) → IsIn h hits
selected_in (Range q r) hits h k = in-in_order hit_before hit_order hits h k
selected_in (Nearest q n) hits h k = in-in_order hit_before hit_order hits h (in-take n (in_order hit_before hits) h k)

-- ---- the tags of what is met

in_or_none : (id : ℕ) (es : List LeafEntry) → IsIn id (ids_of es) ⊎ (tag_of id es ≡ 0)
in_or_none id [] = inr refl
in_or_none id (e ∷ es) = cases (e.id == id) refl (in_or_none id es)
  where
    cases : (b : Bool) → (e.id == id) ≡ b → IsIn id (ids_of es) ⊎ (tag_of id es ≡ 0) → IsIn id (ids_of (e ∷ es)) ⊎ ((if b then e.tag else tag_of id es) ≡ 0)
    cases true is later = inl (inl (let same : id ≡ e.id = grind (arith, nat_tests) in same))
    cases false is later = elim later [ inl k ↦ inl (inr k) | inr none ↦ inr none ]

module _ (s : Space) (nodes : Nodes) (t : Live) (sound : IsSoundTree s nodes t) (rs : List Record) where
  all_met : AllByRecursion (λ e. IsIn e (objects nodes t)) (met nodes (t.root ∷ []) rs)
  all_met = met_all s nodes (λ e. IsIn e (objects nodes t)) rs (root_spot t ∷ []) ((sound.parts, tt), tt) (all_append (λ e. IsIn e (objects nodes t)) (objects nodes t) [] (each_in (objects nodes t) (λ e k. k)) tt)
    where
      each_in : (es : List LeafEntry) → ((e : LeafEntry) → IsIn e es → IsIn e (objects nodes t)) → AllByRecursion (λ e. IsIn e (objects nodes t)) es
      each_in [] among = tt
      each_in (e ∷ es) among = (among e (inl refl), each_in es (λ o k. among o (inr k)))

  same_tag : (id : ℕ) → IsIn id (ids_of (met nodes (t.root ∷ []) rs)) → tag_of id (met nodes (t.root ∷ []) rs) ≡ slice_index_or (tags_by_id nodes t) id 0
  same_tag id k =
      let es = met nodes (t.root ∷ []) rs in
      let there = in-map (λ e. e.id) es id k in
      let is_object : IsIn there.0 (objects nodes t) = all_in (λ e. IsIn e (objects nodes t)) es there.0 all_met there.1 in
      let counted : 1 ≤ times id (ids_of (objects nodes t)) = subst (λ (i : ℕ). 1 ≤ times i (ids_of (objects nodes t))) (sym there.2) (times-in (objects nodes t) there.0 is_object) in
      let low : id < t.count = below (nat_lt id t.count) refl (sound.ids id) counted in
      tag_same id (objects nodes t) es (each_tag (objects nodes t) es (λ id. once_counted (objects nodes t) t.count id sound.ids) (λ e w. all_in (λ e. IsIn e (objects nodes t)) es e all_met w)) k
      ∙ sym (tag_at (objects nodes t) 0 t.count id low ∙ ap (λ (j : ℕ). tag_of j (objects nodes t)) (let e : 0 + id ≡ id = omega arith in e))
    where
      below : (b : Bool) → nat_lt id t.count ≡ b → times id (ids_of (objects nodes t)) ≡ (if b then 1 else 0) → 1 ≤ times id (ids_of (objects nodes t)) → id < t.count
      below true is e many = grind (arith, nat_tests)
      below false is e many = absurd (let f : ⊥ = omega (arith, e, many) in f)

  -- the tag of an id that is met is its object's
  pub own_tags : (hits : List Hit) → AllZip (IsOwnTag nodes t) hits (tags_among (met nodes (t.root ∷ []) rs) hits)
  own_tags [] = tt
  own_tags (h ∷ hs) = (elim (in_or_none h.id (met nodes (t.root ∷ []) rs)) [ inl k ↦ inl (same_tag h.id k) | inr none ↦ inr none ], own_tags hs)

-- where the log shows the hits, each of them is met
module _ (s : Space) (nodes : Nodes) (t : Live) (found : Found) (shown : IsShown s nodes t found) where
  hit_met : (h : Hit) → IsIn h found.hits → IsIn h.id (ids_of (met nodes (t.root ∷ []) found.log.records))
  hit_met h k =
      let log = shown.log in
      let answer : IsIn h (selected found.log.query log.hits) = subst (IsIn h) (shown.hits_are ∙ log.answers_are) k in
      subst (IsIn h.id) (walk_ids (search_for s found.log.query found.log.answers) nodes found.log.records (root_need t.root ∷ []) log.hits log.walk) (map-in (λ h. h.id) log.hits h (selected_in found.log.query log.hits h answer))

  pub shown_tags : met_tags nodes t found ≡ object_tags nodes t found
  shown_tags = each found.hits (λ h k. k)
    where
      each : (hs : List Hit) → ((h : Hit) → IsIn h hs → IsIn h found.hits) → map (λ h. tag_of h.id (met nodes (t.root ∷ []) found.log.records)) hs ≡ map (λ h. slice_index_or (tags_by_id nodes t) h.id 0) hs
      each [] among = refl
      each (h ∷ hs) among =
          ap (λ (tag : ℕ). tag ∷ map (λ h. tag_of h.id (met nodes (t.root ∷ []) found.log.records)) hs) (same_tag s nodes t shown.tree found.log.records h.id (hit_met h (among h (inl refl))))
          ∙ ap (λ (tags : List ℕ). slice_index_or (tags_by_id nodes t) h.id 0 ∷ tags) (each hs (λ g k. among g (inr k)))
