-- What the walk of a log meets.
use Rattle.std.proofs.Common.{◌≡◌, ℕ, List, [], ◌∷◌, ◌++◌, map, length, Bool, true, false, Option, Some, None, refl, sym, ap, subst, ◌∙◌, append_assoc, arith}
use Rattle.std.specs.Prelude.{if◌then◌else◌, ◌==◌}
use Rattle.std.proofs.lemmas.List.{append-nil}
use Rattle.std.proofs.lemmas.Bool.Decides.{nat_tests}
use Rattle.scan_model.specs.declared.hit.Hit.{Hit}
use Rattle.tree_shape.specs.declared.entry.LeafEntry.{LeafEntry}
use Rattle.tree_shape.specs.declared.entry.InnerEntry.{InnerEntry}
use Rattle.tree_shape.specs.declared.entry.Node.{Node}
use Rattle.tree_shape.specs.declared.entry.Node.TheVariants.{Leaf, Inner}
use Rattle.tree_shape.specs.Tree.{Nodes}
use Rattle.log_model.specs.declared.marks.Mark.{Mark}
use Rattle.log_model.specs.declared.marks.Need.{Need}
use Rattle.log_model.specs.declared.marks.Record.{Record}
use Rattle.log_model.specs.declared.tagged.TaggedHit.{TaggedHit}
use Rattle.log_model.specs.Counts.{entry_count}
use Rattle.log_model.specs.Walk.{Search, ReachesBy, AreLeast, least_marks, near_ones, need_of, needs_of, hit_of, hits_of, record_of, root_need}
use Rattle.log_model.specs.Met.{near_objects, near_pages, with_marks, marked_node, met, tagged_of, hits_among, tagged_by}
use Rattle.log_model.proofs.Walk.{map-append}
use Rattle.log_model.proofs.Valid.{marks_long}

-- ---- a marked node

same_number : (a b : ℕ) → a ≡ b → (a == b) ≡ true
same_number a b same = grind (arith, nat_tests)

-- a record that marks its node
pub marks_node : (nodes : Nodes) (page : ℕ) (r : Record) (node : Node) → r.page ≡ page → nodes page ≡ Some node → length r.marks ≡ entry_count node → marked_node nodes page r ≡ Some node
marks_node nodes page r node named is long = rw (same_number r.page page named, is, same_number (length r.marks) (entry_count node) long) refl

pub marked_is : (nodes : Nodes) (page : ℕ) (r : Record) (node : Node) → marked_node nodes page r ≡ Some node → nodes page ≡ Some node
marked_is nodes page r node marked = named (r.page == page) marked
  where
    counted : (b : Bool) (n : Node) → (if b then Some n else None) ≡ Some node → Some n ≡ Some node
    counted true n is = is
    counted false n is = absurd (cc)

    there : (o : Option Node) → with_marks r.marks o ≡ Some node → o ≡ Some node
    there None is = absurd (cc)
    there (Some n) is = counted (length r.marks == entry_count n) n is

    named : (b : Bool) → (if b then with_marks r.marks (nodes page) else None) ≡ Some node → nodes page ≡ Some node
    named true is = there (nodes page) is
    named false is = absurd (cc)

pub met_none : (nodes : Nodes) (ps : List ℕ) → met nodes ps [] ≡ []
met_none nodes [] = refl
met_none nodes (p ∷ ps) = refl

-- ---- the pages that a walk needs

abbrev pub pages_needed : List Need → List ℕ
pages_needed ns = map (λ n. n.page) ns

child_needs : (f : Search) (es : List InnerEntry) (ns : List Need) → map (λ e. e.child) es ++ pages_needed ns ≡ pages_needed (map (need_of f) es ++ ns)
child_needs f [] ns = refl
child_needs f (e ∷ es) ns = ap (λ (ps : List ℕ). e.child ∷ ps) (child_needs f es ns)

pub near_needs : (f : Search) (node : Node) (marks : List Mark) (ns : List Need) → near_pages node marks ++ pages_needed ns ≡ pages_needed (needs_of f node marks ++ ns)
near_needs f (Leaf es) marks ns = refl
near_needs f (Inner level es) marks ns = child_needs f (near_ones es marks) ns

-- ---- one more page is opened

module _ (f : Search) (nodes : Nodes) (n : Need) (left : List Need) (node : Node) (is : nodes n.page ≡ Some node) where
  abbrev least : Record
  least = record_of f n node

  abbrev near : List LeafEntry
  near = near_objects node (least_marks f n.above node)

  -- what a walk with the least marks meets on the page that it needs next
  pub met_more : (ns : List Need) (rs : List Record) (hits : List Hit) → ReachesBy AreLeast f nodes ns rs hits (n ∷ left) →
      met nodes (pages_needed ns) (rs ++ record_of f n node ∷ []) ≡ met nodes (pages_needed ns) rs ++ near_objects node (least_marks f n.above node)
  met_more [] [] hits walk = absurd (let e : ◌≡◌ {A = List Need} (n ∷ left) [] = walk.1 in cc)
  met_more (m ∷ ms) [] hits walk =
      let first : n.page ≡ m.page = (let e : n ≡ m = cc (walk.1) in ap (λ (k : Need). k.page) e) in
      let marked : marked_node nodes m.page least ≡ Some node = marks_node nodes m.page least node first (ap nodes (sym first) ∙ is) (marks_long f n.above node) in
      rw marked (ap (λ (es : List LeafEntry). near ++ es) (met_none nodes (near_pages node least.marks ++ pages_needed ms)) ∙ append-nil near)
  met_more [] (r ∷ rs) hits walk = absurd walk
  met_more (m ∷ ms) (r ∷ rs) hits walk =
      let there : Node = walk.0 in
      let marked : marked_node nodes m.page r ≡ Some there = marks_node nodes m.page r there walk.2 walk.1 (ap length walk.3 ∙ marks_long f m.above there) in
      let here : List LeafEntry = near_objects there r.marks in
      let needs : near_pages there r.marks ++ pages_needed ms ≡ pages_needed (needs_of f there r.marks ++ ms) = near_needs f there r.marks ms in
      let deep : met nodes (near_pages there r.marks ++ pages_needed ms) (rs ++ least ∷ []) ≡ met nodes (near_pages there r.marks ++ pages_needed ms) rs ++ near =
      subst (λ (ps : List ℕ). met nodes ps (rs ++ least ∷ []) ≡ met nodes ps rs ++ near) (sym needs) (met_more (needs_of f there r.marks ++ ms) rs walk.4.0 walk.4.1) in
      rw marked (ap (λ (es : List LeafEntry). here ++ es) deep ∙ sym (append_assoc here (met nodes (near_pages there r.marks ++ pages_needed ms) rs) near))

  -- the hits with tags that one more page adds
  pub tagged_more : (root : ℕ) (rs : List Record) (hits : List Hit) → ReachesBy AreLeast f nodes (root_need root ∷ []) rs hits (n ∷ left) →
      tagged_by f.space f.point nodes root (rs ++ record_of f n node ∷ [])
      ≡ tagged_by f.space f.point nodes root rs ++ map (tagged_of f.space f.point) (near_objects node (least_marks f n.above node))
  tagged_more root rs hits walk =
      ap (map (tagged_of f.space f.point)) (met_more (root_need root ∷ []) rs hits walk) ∙ map-append (tagged_of f.space f.point) (met nodes (root ∷ []) rs) near

-- ---- hits with tags

tagged_hits : (f : Search) (es : List LeafEntry) → hits_among (map (tagged_of f.space f.point) es) ≡ map (hit_of f) es
tagged_hits f [] = refl
tagged_hits f (e ∷ es) = ap (λ (hs : List Hit). hit_of f e ∷ hs) (tagged_hits f es)

node_hits : (f : Search) (node : Node) (marks : List Mark) → hits_among (map (tagged_of f.space f.point) (near_objects node marks)) ≡ hits_of f node marks
node_hits f (Leaf es) marks = tagged_hits f (near_ones es marks)
node_hits f (Inner level es) marks = refl

-- the hits of a node are added where its objects are
pub hits_more : (f : Search) (node : Node) (marks : List Mark) (old new : List TaggedHit) → new ≡ old ++ map (tagged_of f.space f.point) (near_objects node marks) →
    hits_among new ≡ hits_among old ++ hits_of f node marks
hits_more f node marks old new is =
    ap hits_among is ∙ map-append (λ (t : TaggedHit). t.hit) old (map (tagged_of f.space f.point) (near_objects node marks))
    ∙ ap (λ (hs : List Hit). hits_among old ++ hs) (node_hits f node marks)
