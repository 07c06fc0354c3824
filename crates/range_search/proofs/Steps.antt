-- The steps of a search.
use Rattle.std.proofs.Common.{◌≡◌, ℕ, suc, ◌+◌, ◌<◌, ◌≤◌, false, List, [], ◌∷◌, ◌++◌, refl, sym, ap, ◌∙◌, Err, arith, length, length-append, subst, reverse, map}
use Rattle.std.specs.Prelude.{IsTrue}
use Rattle.std.proofs.lemmas.List.{length-map}
use Rattle.metric_laws.specs.Counts.{next_count, count_up}
use Rattle.metric_laws.proofs.Published.{all_append}
use Rattle.scan_model.specs.declared.hit.Hit.{Hit}
use Rattle.tree_shape.specs.declared.live.Live.{Live}
use Rattle.tree_shape.specs.declared.entry.Node.{Node}
use Rattle.tree_shape.specs.declared.entry.Node.TheVariants.{Leaf, Inner}
use Rattle.node_page.specs.Nodes.{IsValidNode}
use Rattle.page_store.specs.declared.pages.PageFault.{PageFault}
use Rattle.page_store.specs.declared.pages.PageFault.TheVariants.{Disk, Bad, Outside, Memory, Repeats, Level}
use Rattle.page_store.specs.Reading.{Read, nodes_of, IsWithin, is_within}
use Rattle.page_store.specs.Shelf.{Shelf, HoldsSame, IsNodeOf, HasPageCause}
use Rattle.log_model.specs.declared.marks.Record.{Record}
use Rattle.log_model.specs.declared.marks.Need.{Need}
use Rattle.log_model.specs.declared.traversal.Traversal.{Traversal}
use Rattle.log_model.specs.Counts.{measured, measured_by, entry_count}
use Rattle.log_model.specs.Steps.{TakesNode}
use Rattle.log_model.specs.declared.tagged.TaggedHit.{TaggedHit}
use Rattle.log_model.specs.Walk.{Search, AreLeast, ReachesBy, least_marks, hits_of, needs_of, record_of, root_need}
use Rattle.log_model.specs.Met.{near_objects, tagged_of, hits_among}
use Rattle.log_model.proofs.Published.{marks_long, hits_few, hits_more, tagged_more, reaches_more, count_up_more, count_up_both, measured-append}
use Rattle.range_search.specs.Searched.{IsUnderWay, Needs, HasWalkCause}
use Rattle.page_store.proofs.Published.{holds_both, told_then}

-- a node has at most 32 entries
entries_few : (dim : ℕ) (node : Node) → IsValidNode dim node → entry_count node ≤ 32
entries_few dim (Leaf es) valid = let few = valid.0 in omega arith
entries_few dim (Inner level es) valid = let few = valid.3 in omega arith

-- the pages, the counts, and what the pages' nodes are known to name
step_on : (f : Search) (old now next : Shelf) (u v w root : ℕ) (n : Need) (node : Node) (rs : List Record) (tagged : List TaggedHit) (left needs : List Need) →
    IsNodeOf now n.page node → HoldsSame now next → next.asked ≡ next_count now.asked → next.reads ≤ now.reads + 1 → w ≡ count_up v (measured_by (least_marks f n.above node)) →
    needs ≡ needs_of f node (least_marks f n.above node) ++ left → IsUnderWay f old now u v root rs tagged (n ∷ left) →
    IsUnderWay f old next u w root (rs ++ record_of f n node ∷ []) (tagged ++ map (tagged_of f.space f.point) (near_objects node (least_marks f n.above node))) needs
step_on f old now next u v w root n node rs tagged left needs is same asked reads used next_needs before =
    let r : Record = record_of f n node in
    let near : List TaggedHit = map (tagged_of f.space f.point) (near_objects node (least_marks f n.above node)) in
    let long = length-append rs (r ∷ []) in
    let more = length-append tagged near in
    let entries = entries_few now.dim node is.valid in
    let few = hits_few f node (least_marks f n.above node) in
    let as_many : length near ≡ length (hits_of f node (least_marks f n.above node)) =
    sym (length-map near (λ t. t.hit)) ∙ ap length (hits_more f node (least_marks f n.above node) [] near refl) in
    let many = marks_long f n.above node in
    record {
      holds = holds_both old now next before.holds same;
      asked =
          asked ∙ ap next_count before.asked ∙ count_up_more old.asked (length rs)
          ∙ ap (count_up old.asked) (let e : suc (length rs) ≡ length (rs ++ r ∷ []) = omega arith in e);
      reads = (let b = before.reads in omega arith);
      used =
          used ∙ ap (λ (x : ℕ). count_up x (measured_by r.marks)) before.used ∙ count_up_both u (measured rs) (measured_by r.marks)
          ∙ ap (count_up u) (sym (measured-append rs r));
      few_marks = all_append (λ (q : Record). length q.marks ≤ 32) rs (r ∷ []) before.few_marks ((omega arith), tt);
      few_hits = (let b = before.few_hits in omega arith);
      walk = λ is_known.
          subst (λ (ns : List Need). ReachesBy AreLeast f (nodes_of old.read) (root_need root ∷ []) (rs ++ r ∷ []) (hits_among (tagged ++ near)) ns) (sym next_needs)
          (subst (λ (hs : List Hit). ReachesBy AreLeast f (nodes_of old.read) (root_need root ∷ []) (rs ++ r ∷ []) hs (needs_of f node (least_marks f n.above node) ++ left))
          (sym (hits_more f node (least_marks f n.above node) tagged (tagged ++ near) refl))
          (reaches_more AreLeast f (nodes_of old.read) (root_need root ∷ []) rs (hits_among tagged) n left node (least_marks f n.above node)
          (told_then old now n.page node before.holds is is_known) refl (before.walk is_known)));
      tagged_are = λ is_known.
          ap (λ (ts : List TaggedHit). ts ++ near) (before.tagged_are is_known)
          ∙ sym (tagged_more f (nodes_of old.read) n left node (told_then old now n.page node before.holds is is_known) root rs (hits_among tagged) (before.walk is_known));
    }

pub step : (f : Search) (old now next : Shelf) (u v w root : ℕ) (n : Need) (node : Node) (one other : Traversal) →
    IsNodeOf now n.page node → HoldsSame now next → next.asked ≡ next_count now.asked → next.reads ≤ now.reads + 1 → w ≡ count_up v (measured_by (least_marks f n.above node)) →
    TakesNode f n node one other →
    IsUnderWay f old now u v root one.records.items one.tagged.items (n ∷ reverse one.stack.items) →
    IsUnderWay f old next u w root other.records.items other.tagged.items (reverse other.stack.items)
step f old now next u v w root n node one other is same asked reads used takes before =
    rw (takes.records, takes.tagged)
    (step_on f old now next u v w root n node one.records.items one.tagged.items (reverse one.stack.items) (reverse other.stack.items) is same asked reads used takes.needs before)

-- a walk begins

pub begins : (f : Search) (old : Shelf) (u root : ℕ) (rs : List Record) (tagged : List TaggedHit) (stack : List Need) → rs ≡ [] → tagged ≡ [] → stack ≡ root_need root ∷ [] →
    IsUnderWay f old old u u root rs tagged (reverse stack)
begins f old u root rs tagged stack none no_hits one = rw (none, no_hits, one) (record {
  holds = record { dim = refl; pages = refl; is_known = refl; read = refl; faults = (omega arith) };
  asked = refl;
  reads = omega arith;
  used = refl;
  few_marks = tt;
  few_hits = omega arith;
  walk = λ is_known. (refl, refl);
  tagged_are = λ is_known. refl;
})

-- why a step refuses is why the walk does

module _ (f : Search) (live : Live) (old now next : Shelf) (u v : ℕ) (n : Need) (rest : List Need) (rs : List Record) (tagged : List TaggedHit) (way : IsUnderWay f old now u v live.root rs tagged (n ∷ rest)) where
  needs_here : (opened page : ℕ) → n.page ≡ page → length rs ≡ opened → IsTrue old.is_known → Needs f (nodes_of old.read) live.root opened page
  needs_here opened page is count is_known = record { records = rs; hits = hits_among tagged; next = n; rest = rest; walk = way.walk is_known; is = is; count = count }

  pub cause_here : (fault : PageFault) → length rs < live.pages → HasPageCause now next n.page fault → HasWalkCause f live old next fault
  cause_here Disk low cause = (let l = way.holds.faults in let c = cause in omega arith)
  cause_here (Bad page fault) low cause = (
    subst (λ (p : ℕ). IsWithin p page) way.holds.pages (subst (λ (p : ℕ). IsWithin now.pages p) (sym cause.0) cause.1),
    λ is_known. (
      subst (λ (p : ℕ). old.read p ≡ Err (Bad page fault)) (sym cause.0)
          (subst (λ (p : ℕ). old.read n.page ≡ Err (Bad p fault)) (sym cause.0)
          (ap (λ (r : Read). r n.page) (sym way.holds.read) ∙ cause.2 (rw way.holds.is_known is_known))),
      (length rs, low, needs_here (length rs) page (sym cause.0) refl is_known),
    ),
  )
  cause_here (Outside page) low cause = (
    subst (λ (p : ℕ). is_within p page ≡ false) way.holds.pages (subst (λ (p : ℕ). is_within now.pages p ≡ false) (sym cause.0) cause.1),
    λ is_known. (
      subst (λ (p : ℕ). old.read p ≡ Err (Outside page)) (sym cause.0)
          (subst (λ (p : ℕ). old.read n.page ≡ Err (Outside p)) (sym cause.0)
          (ap (λ (r : Read). r n.page) (sym way.holds.read) ∙ cause.2 (rw way.holds.is_known is_known))),
      (length rs, low, needs_here (length rs) page (sym cause.0) refl is_known),
    ),
  )
  cause_here Memory low cause = tt
  cause_here (Repeats page) low cause = absurd cause
  cause_here (Level page) low cause = absurd cause

  -- as many pages as there are were opened
  pub repeats_here : length rs ≡ live.pages → HasWalkCause f live old now (Repeats n.page)
  repeats_here all = (way.asked ∙ ap (count_up old.asked) all, λ is_known. needs_here live.pages n.page refl all is_known)

-- the walk goes on with the same metric
pub goes_on : (f g : Search) (old now next : Shelf) (u v w root : ℕ) (n : Need) (stack rest left : List Need) (rs rs' : List Record) (tagged tagged' : List TaggedHit) → g ≡ f → stack ≡ n ∷ rest →
    (IsUnderWay g old now u v root rs tagged (n ∷ rest) → IsUnderWay g old next u w root rs' tagged' left) →
    IsUnderWay f old now u v root rs tagged stack → IsUnderWay f old next u w root rs' tagged' left
goes_on f g old now next u v w root n stack rest left rs rs' tagged tagged' same top on way =
    subst (λ (h : Search). IsUnderWay h old next u w root rs' tagged' left) same
    (on (subst (λ (h : Search). IsUnderWay h old now u v root rs tagged (n ∷ rest)) (sym same) (subst (λ (ns : List Need). IsUnderWay f old now u v root rs tagged ns) top way)))
