-- A search between two steps, over pages that may tell a sound tree or not.
use Rattle.std.proofs.Common.{◌≡◌, ◌⊎◌, ℕ, zero, suc, ◌+◌, ◌<◌, ◌≤◌, ◌^◌, Bool, true, false, cond, List, [], ◌∷◌, ◌++◌, refl, sym, ap, arith, ◌∙◌, length, length-append, subst, Option, Some, None, Err, inl, inr, reverse}
use Rattle.std.specs.Prelude.{IsTrue, map, nat_le}
use Rattle.std.proofs.lemmas.Bool.Decides.{nat_tests}
use Rattle.std.proofs.lemmas.List.{length-map}
use Rattle.metric_laws.specs.Space.{Space, IsSpace}
use Rattle.metric_laws.specs.Counts.{next_count, count_up}
use Rattle.metric_laws.specs.Lists.{IsIn}
use Rattle.metric_laws.proofs.Published.{all_append, in-map, in-append, in-append_right}
use Rattle.scan_model.specs.declared.query.Query.{Query}
use Rattle.scan_model.specs.declared.query.Query.TheVariants.{Nearest}
use Rattle.tree_shape.specs.declared.live.Live.{Live}
use Rattle.tree_shape.specs.declared.entry.InnerEntry.{InnerEntry}
use Rattle.tree_shape.specs.declared.entry.Node.{Node}
use Rattle.tree_shape.specs.declared.entry.Node.TheVariants.{Leaf, Inner}
use Rattle.tree_shape.specs.Tree.{Nodes, IsSoundAt, IsSoundTree, points_by_id, inner_entries}
use Rattle.node_page.specs.Nodes.{IsValidNode}
use Rattle.page_store.specs.declared.pages.PageFault.{PageFault}
use Rattle.page_store.specs.declared.pages.PageFault.TheVariants.{Disk, Bad, Outside, Memory, Repeats, Level}
use Rattle.page_store.specs.Reading.{Read, IsWithin, is_within, nodes_of, node_or_none}
use Rattle.page_store.specs.Shelf.{Shelf, HoldsSame, HasPageCause, IsPassing}
use Rattle.log_model.specs.declared.logs.Found.{Found}
use Rattle.log_model.specs.declared.marks.Mark.{Mark}
use Rattle.log_model.specs.declared.marks.Mark.TheVariants.{Skip, Far, Near}
use Rattle.log_model.specs.declared.marks.Record.{Record}
use Rattle.log_model.specs.declared.marks.Need.{Need}
use Rattle.log_model.specs.declared.tagged.TaggedHit.{TaggedHit}
use Rattle.log_model.specs.declared.traversal.Traversal.{Traversal}
use Rattle.log_model.specs.Counts.{entry_count}
use Rattle.log_model.specs.Grammar.{IsValidQuery}
use Rattle.log_model.specs.Sound.{IsLogOf, IsLeastLog, selected, search_for}
use Rattle.log_model.specs.Laws.{scan_answers}
use Rattle.log_model.specs.Steps.{TakesNode}
use Rattle.log_model.specs.Walk.{Search, search_at, AreLeast, WalksBy, ReachesBy, least_marks, near_ones, hits_of, needs_of, record_of, root_need}
use Rattle.log_model.specs.Met.{near_objects, tagged_of, hits_among, tagged_by}
use Rattle.log_model.proofs.Published.{valid_log, sound_complete, least_sound, count_up_more, reaches_more, tagged_more, hits_more}
use Rattle.nearest_search.specs.declared.pending.Pending.{Pending}
use Rattle.nearest_search.specs.Counts.{IsRadius}
use Rattle.nearest_search.specs.Queue.{IsNext}
use Rattle.nearest_search.specs.declared.seen.Sight.{Sight}
use Rattle.nearest_search.specs.Seeing.{Seen, Objects, Subtrees, IsSeenOf, count_of, sights, mark_at, is_near, seen_near, tagged_seen, need_seen, tagged_near, marks_seen, record_seen}
use Rattle.nearest_search.specs.Keeping.{Sheets, IsKept, AreSeenOf, IsFew, KeepsFew}
use Rattle.nearest_search.specs.Machine.{pending_root, pending_of, pendings_of, dists_of, entries_in, entries_of}
use Rattle.nearest_search.specs.Opened.{State, Takes, IsOpened}
use Rattle.nearest_search.specs.RebuiltLog.{TakesSeen, IsRebuilding, IsRebuiltLog, IsStopped}
use Rattle.nearest_search.specs.Searched.{marks_in, IsReachedBy, IsReached, IsExploring, IsExplored, HasNearestCause, IsFront, IsNearest}
use Rattle.nearest_search.proofs.Totals.{in-permutation, in-permutation_back, within_all}
use Rattle.nearest_search.proofs.Steps.{step}
use Rattle.nearest_search.proofs.Ends.{begins, room, ends}
use Rattle.nearest_search.proofs.Seeing.{length-marks, few_objects, few_subtrees, objects_marked, objects_named, subtrees_marked, subtrees_needed}
use Rattle.nearest_search.proofs.Walking.{walk_opens, opens_before}
use Rattle.page_store.proofs.Published.{holds_both, told_then}

entries_few : (dim : ℕ) (node : Node) → IsValidNode dim node → entry_count node ≤ 32
entries_few dim (Leaf es) valid = let few = valid.0 in omega arith
entries_few dim (Inner level es) valid = let few = valid.3 in omega arith

-- what is seen of a node is few
few_seen : (s : Space) (q : List ℕ) (rho : ℕ) (above : Option ℕ) (node : Node) (seen : Seen) → entry_count node ≤ 32 → IsSeenOf s q rho above node seen → IsFew seen
few_seen s q rho above (Leaf es) (Objects count xs) few is = rw (is.2, is.3) (few_objects (search_at s q is.0) above es few)
few_seen s q rho above (Leaf es) (Subtrees count xs) few is = absurd is
few_seen s q rho above (Inner level es) (Objects count xs) few is = absurd is
few_seen s q rho above (Inner level es) (Subtrees count xs) few is = rw (is.2, is.3) (few_subtrees (search_at s q is.0) above es few)

-- what was seen at a radius gives the marks at each lower one
seen_lower : (s : Space) (q : List ℕ) (rho low : ℕ) → low ≤ rho → (above : Option ℕ) (node : Node) (seen : Seen) → IsSeenOf s q rho above node seen → IsSeenOf s q low above node seen
seen_lower s q rho low le above (Leaf es) (Objects count xs) is = (is.0, omega (arith, is.1), is.2, is.3)
seen_lower s q rho low le above (Leaf es) (Subtrees count xs) is = absurd is
seen_lower s q rho low le above (Inner level es) (Objects count xs) is = absurd is
seen_lower s q rho low le above (Inner level es) (Subtrees count xs) is = (is.0, omega (arith, is.1), is.2, is.3)

-- the radius never rises
radius_falls : (k : ℕ) (old new ds : List ℕ) (rho low : ℕ) → IsRadius k old rho → Takes k old new ds → IsRadius k new low → low ≤ rho
radius_falls k old new ds rho low was takes now = cases (nat_le low rho) refl
  where
    cases : (b : Bool) → nat_le low rho ≡ b → low ≤ rho
    cases true e = grind (arith, nat_tests)
    cases false e =
        let less : rho < low = grind (arith, nat_tests) in
        let b = now.bounded in
        let full = was.full (omega arith) in
        let all = within_all rho old was.most in
        let few = now.fewer rho less in
        let t = takes rho in
        absurd (omega arith)

-- what is kept after a page was opened
module _ (before after : Sheets) (page : ℕ) (above : Option ℕ) (seen : Seen) (here : after page above ≡ Some seen)
    (others : (p : ℕ) (a : Option ℕ) → ((p ≡ page) × (a ≡ above)) ⊎ (after p a ≡ before p a)) where
  one_seen : (p : ℕ) (a : Option ℕ) (n : Seen) → p ≡ page → a ≡ above → after p a ≡ Some n → n ≡ seen
  one_seen p a n same level is =
      let there : after page above ≡ Some n = subst (λ (x : ℕ). after x above ≡ Some n) same (subst (λ (x : Option ℕ). after p x ≡ Some n) level is) in
      cc (there, here)

  keeps_few_then : KeepsFew before → IsFew seen → KeepsFew after
  keeps_few_then few new p a n is = elim (others p a) [
    | inl same ↦ subst IsFew (sym (one_seen p a n same.0 same.1 is)) new
    | inr same ↦ few p a n (sym same ∙ is)
  ]

  kept_then : (p : ℕ) (a : Option ℕ) → IsKept before p a → IsKept after p a
  kept_then p a was = elim (others p a) [ inl same ↦ (seen, rw (same.0, same.1) here) | inr same ↦ (was.0, same ∙ was.1) ]

  seen_then : (s : Space) (q : List ℕ) (nodes : Nodes) (rho low : ℕ) → low ≤ rho → AreSeenOf s q rho nodes before → (node : Node) → nodes page ≡ Some node → IsSeenOf s q rho above node seen → AreSeenOf s q low nodes after
  seen_then s q nodes rho low le was node is new p a n kept = elim (others p a) [
    | inl same ↦ (
      node,
      ap nodes same.0 ∙ is,
      subst (λ (x : Option ℕ). IsSeenOf s q low x node n) (sym same.1)
          (subst (λ (x : Seen). IsSeenOf s q low above node x) (sym (one_seen p a n same.0 same.1 kept)) (seen_lower s q rho low le above node seen new)),
    )
    | inr same ↦ (let o = was p a n (sym same ∙ kept) in (o.0, o.1, seen_lower s q rho low le a o.0 n o.2))
  ]

-- a child of a reached page is reached
child_reached : (nodes : Nodes) (page p : ℕ) (path : List ℕ) (e : InnerEntry) → IsIn e (inner_entries (nodes p)) → IsReachedBy nodes page path p → IsReachedBy nodes page (path ++ e.child ∷ []) e.child
child_reached nodes page p [] e k by = (e, subst (λ (n : ℕ). IsIn e (inner_entries (nodes n))) (sym by) k, refl, refl)
child_reached nodes page p (c ∷ path) e k by = (by.0, by.1, by.2, child_reached nodes c p path e k by.3)

near-in : (es : List InnerEntry) (ms : List Mark) (e : InnerEntry) → IsIn e (near_ones es ms) → IsIn e es
near-in [] ms e k = absurd k
near-in (x ∷ es) [] e k = absurd k
near-in (x ∷ es) (Skip ∷ ms) e k = inr (near-in es ms e k)
near-in (x ∷ es) (Far ∷ ms) e k = inr (near-in es ms e k)
near-in (x ∷ es) (Near ∷ ms) e k = elim k [ inl same ↦ inl same | inr w ↦ inr (near-in es ms e w) ]

-- what an opened node queues are children of its entries
queued_child : (f : Search) (above : Option ℕ) (node : Node) (x : Pending) → IsIn x (pendings_of f above node) → (e : InnerEntry) × IsIn e (inner_entries (Some node)) × (x.page ≡ e.child)
queued_child f above (Leaf es) x k = absurd k
queued_child f above (Inner level es) x k =
    let from = in-map (pending_of f) (near_ones es (least_marks f above (Inner level es))) x k in
    (from.0, near-in es (least_marks f above (Inner level es)) from.0 from.1, ap (λ (y : Pending). y.page) from.2)

abbrev pub first_state : Live → ℕ → State
first_state live used = record { queue = pending_root live.root ∷ []; best = []; kept = λ page above. None; used = used }

module _ (s : Space) (axioms : IsSpace s) (old : Shelf) (live : Live) (q : List ℕ) (q_fits : IsTrue (s.is_point q)) (k used : ℕ) where
  pub explore_begins : IsExploring s old old live q k (first_state live used) 0 used
  explore_begins = record {
    same = record { dim = refl; pages = refl; is_known = refl; read = refl; faults = (omega arith) };
    asked = refl;
    reads = omega arith;
    few = omega arith;
    keeps_few = λ page above seen is. absurd (cc);
    begun = inr (inl refl);
    agrees = λ is_known rho radius page above seen is. absurd (cc);
    reached = λ is_known x k. elim k [ inl e ↦ ([], sym (ap (λ (y : Pending). y.page) e)) | inr w ↦ absurd w ];
    walk = λ is_known. record { opened = []; walk = λ k. omega arith; count_is = refl };
    pages = [];
    long = refl;
    spent = λ is_known. omega arith;
    holds = λ is_known sound. begins s axioms (nodes_of old.read) live q q_fits k sound;
  }

  module _ (now : Shelf) (state : State) (opened : ℕ) (before : IsExploring s old now live q k state opened used) (rho : ℕ) (radius : IsRadius k state.best rho) (next : Pending) (rest : List Pending) (first : IsNext rho state.queue next rest) where
    next_reached : IsTrue old.is_known → IsReached (nodes_of old.read) live.root next.page
    next_reached is_known = before.reached is_known next (in-permutation_back state.queue (next ∷ rest) next first.popped (inl refl))

    pub explore_steps : (f : Search) (j : ℕ) (new : Shelf) (after : State) → f ≡ search_at s q rho → j ≡ k →
        IsOpened f now j next (record { queue = rest; best = state.best; kept = state.kept; used = state.used }) after → HoldsSame now new →
        new.asked ≡ next_count now.asked → new.reads ≤ now.reads + 1 → opened < live.pages → IsExploring s old new live q k after (opened + 1) used
    explore_steps f j new after is_search is_k does same asked reads low =
        let done : IsOpened (search_at s q rho) now k next (record { queue = rest; best = state.best; kept = state.kept; used = state.used }) after =
        subst (λ (n : ℕ). IsOpened (search_at s q rho) now n next (record { queue = rest; best = state.best; kept = state.kept; used = state.used }) after) is_k
        (subst (λ (g : Search). IsOpened g now j next (record { queue = rest; best = state.best; kept = state.kept; used = state.used }) after) is_search does) in
        record {
          same = holds_both old now new before.same same;
          asked = asked ∙ ap next_count before.asked ∙ count_up_more old.asked opened ∙ ap (count_up old.asked) (let e : suc opened ≡ opened + 1 = omega arith in e);
          reads = (let b = before.reads in omega arith);
          few = omega arith;
          keeps_few = keeps_few_then state.kept after.kept next.page next.above done.seen done.here done.others before.keeps_few
              (few_seen s q rho next.above done.node done.seen (entries_few now.dim done.node done.is.valid) done.seen_is);
          begun = elim before.begun [
            | inl w ↦ inl (omega arith, kept_then state.kept after.kept next.page next.above done.seen done.here done.others live.root None w.1)
            | inr waits ↦
                elim (in-permutation state.queue (next ∷ rest) (pending_root live.root) first.popped waits) [
                  | inl e ↦ inl (omega arith, (done.seen, ap (λ (x : Pending). after.kept x.page x.above) e ∙ done.here))
                  | inr left ↦
                      inr (in-permutation (pendings_of (search_at s q rho) next.above done.node ++ rest) after.queue (pending_root live.root) done.pushed
                      (in-append_right (pendings_of (search_at s q rho) next.above done.node) rest (pending_root live.root) left))
                ]
          ];
          agrees = λ is_known low then_radius.
              seen_then state.kept after.kept next.page next.above done.seen done.here done.others s q (nodes_of old.read) rho low
              (radius_falls k state.best after.best (dists_of (search_at s q rho) next.above done.node) rho low radius done.noted then_radius) (before.agrees is_known rho radius)
              done.node (told_then old now next.page done.node before.same done.is is_known) done.seen_is;
          reached = λ is_known x k.
              elim (in-append (pendings_of (search_at s q rho) next.above done.node) rest x (in-permutation_back (pendings_of (search_at s q rho) next.above done.node ++ rest) after.queue x done.pushed k)) [
                | inl new ↦
                    let child = queued_child (search_at s q rho) next.above done.node x new in
                    let here = next_reached is_known in
                    let there : nodes_of old.read next.page ≡ Some done.node = told_then old now next.page done.node before.same done.is is_known in (
                      here.0 ++ child.0.child ∷ [],
                      subst (λ (p : ℕ). IsReachedBy (nodes_of old.read) live.root (here.0 ++ child.0.child ∷ []) p) (sym child.2)
                          (child_reached (nodes_of old.read) live.root next.page here.0 child.0 (subst (λ (o : Option Node). IsIn child.0 (inner_entries o)) (sym there) child.1) here.1),
                    )
                | inr left ↦ before.reached is_known x (in-permutation_back state.queue (next ∷ rest) x first.popped (inr left))
              ];
          walk = λ is_known.
              walk_opens (nodes_of old.read) (live.root ∷ []) opened state.queue rest next first.popped (before.walk is_known) (search_at s q rho) next.above done.node after.queue
              (told_then old now next.page done.node before.same done.is is_known) done.pushed;
          pages = next.page ∷ before.pages;
          long = (let l = before.long in omega arith);
          spent = λ is_known.
              (let b = before.spent is_known in let m = done.measured in
              let here : entries_of (nodes_of old.read) next.page ≡ entry_count done.node = ap entries_in (told_then old now next.page done.node before.same done.is is_known) in omega arith);
          holds = λ is_known sound. step s axioms q q_fits (nodes_of old.read) k live.root state.kept state.queue state.best before.pages (before.holds is_known sound) rho radius next rest first.popped first.low first.first
              done.node (told_then old now next.page done.node before.same done.is is_known) after.queue done.pushed after.best done.noted after.kept done.seen done.here done.others;
        }

    pub explore_cause : (new : Shelf) (fault : PageFault) → HasPageCause now new next.page fault → HasNearestCause live old new fault
    explore_cause new Disk cause = (let l = before.same.faults in let c = cause in omega arith)
    explore_cause new (Bad page fault) cause = (
      subst (λ (p : ℕ). IsWithin p page) before.same.pages (subst (λ (p : ℕ). IsWithin now.pages p) (sym cause.0) cause.1),
      λ is_known. (
        subst (λ (p : ℕ). old.read p ≡ Err (Bad page fault)) (sym cause.0)
            (subst (λ (p : ℕ). old.read next.page ≡ Err (Bad p fault)) (sym cause.0)
            (ap (λ (r : Read). r next.page) (sym before.same.read) ∙ cause.2 (rw before.same.is_known is_known))),
        subst (λ (p : ℕ). IsReached (nodes_of old.read) live.root p) (sym cause.0) (next_reached is_known),
      ),
    )
    explore_cause new (Outside page) cause = (
      subst (λ (p : ℕ). is_within p page ≡ false) before.same.pages (subst (λ (p : ℕ). is_within now.pages p ≡ false) (sym cause.0) cause.1),
      λ is_known. (
        subst (λ (p : ℕ). old.read p ≡ Err (Outside page)) (sym cause.0)
            (subst (λ (p : ℕ). old.read next.page ≡ Err (Outside p)) (sym cause.0)
            (ap (λ (r : Read). r next.page) (sym before.same.read) ∙ cause.2 (rw before.same.is_known is_known))),
        subst (λ (p : ℕ). IsReached (nodes_of old.read) live.root p) (sym cause.0) (next_reached is_known),
      ),
    )
    explore_cause new Memory cause = tt
    explore_cause new (Repeats page) cause = absurd cause
    explore_cause new (Level page) cause = absurd cause

    pub explore_repeats : opened ≡ live.pages → HasNearestCause live old now (Repeats next.page)
    explore_repeats all = (
      before.asked ∙ ap (count_up old.asked) all,
      λ is_known. (next_reached is_known, opens_before (nodes_of old.read) (live.root ∷ []) opened state.queue rest next first.popped (before.walk is_known) live.pages all),
    )

    no_node : (page : ℕ) (fault : PageFault) → page ≡ next.page → old.read page ≡ Err fault → IsTrue old.is_known → IsSoundTree s (nodes_of old.read) live → ⊥
    no_node page fault same is is_known sound =
        let p = (before.holds is_known sound).queued next (in-permutation_back state.queue (next ∷ rest) next first.popped (inl refl)) in
        has_node p.height p.least p.above p.sound
      where
        none : nodes_of old.read next.page ≡ None
        none = ap (nodes_of old.read) (sym same) ∙ ap node_or_none is

        has_node : (h least : ℕ) (above : Option (List ℕ)) → IsSoundAt s (nodes_of old.read) h least above next.page → ⊥
        has_node zero least above given = let n = none in let m = given.1 in cc
        has_node (suc h) least above given = let n = none in let m = given.1 in cc

    -- on a sound tree nothing but a passing fault is refused
    pub explore_passes : (new : Shelf) (fault : PageFault) → HasPageCause now new next.page fault → IsTrue old.is_known → IsSoundTree s (nodes_of old.read) live → IsPassing fault
    explore_passes new Disk cause is_known sound = tt
    explore_passes new Memory cause is_known sound = tt
    explore_passes new (Bad page fault) cause is_known sound = absurd (no_node page (Bad page fault) cause.0 (((explore_cause new (Bad page fault) cause).1 is_known).0) is_known sound)
    explore_passes new (Outside page) cause is_known sound = absurd (no_node page (Outside page) cause.0 (((explore_cause new (Outside page) cause).1 is_known).0) is_known sound)
    explore_passes new (Repeats page) cause is_known sound = absurd cause
    explore_passes new (Level page) cause is_known sound = absurd cause

    pub explore_room : opened ≡ live.pages → IsTrue old.is_known → IsSoundTree s (nodes_of old.read) live → ⊥
    explore_room all is_known sound =
        let r = room s axioms (nodes_of old.read) live q q_fits k sound state.kept state.queue state.best before.pages (before.holds is_known sound) rho radius next rest first.popped first.low first.first in
        let l = before.long in
        omega arith

  -- the log that is written at the end
  pub nearest_log : 1 ≤ k → live.pages ≤ 2 ^ 24 → (kept : Sheets) (rho : ℕ) (records : List Record) (tagged : List TaggedHit) → IsRebuiltLog rho kept live records tagged → (found : Found) →
      found.log.generation ≡ live.generation → found.log.root ≡ live.root → found.log.query ≡ Nearest q k → found.log.records ≡ records → found.log.answers ≡ selected (Nearest q k) (hits_among tagged) → found.hits ≡ found.log.answers →
      IsLogOf live (Nearest q k) found
  nearest_log some few kept rho records tagged logged found generation root query are answers same =
      let few_hits = logged.few_hits in
      let long = length-map tagged (λ (t : TaggedHit). t.hit) in
      let few_records = logged.few in
      record {
        hits_are = same;
        generation_is = generation;
        root_is = root;
        query_is = query;
        valid = valid_log found.log (hits_among tagged)
            (subst IsValidQuery (sym query) (record { some = rw (axioms.long q q_fits) axioms.some_coordinates; few = rw (axioms.long q q_fits) axioms.few_coordinates }, some))
            (rw query answers) (omega arith) (rw are (omega arith)) (rw are logged.few_marks);
      }

  pub nearest_ends : 1 ≤ k → (now : Shelf) (state : State) (rho opened : ℕ) → IsExplored s old now live q k state rho opened used → (records : List Record) (tagged : List TaggedHit) → IsRebuiltLog rho state.kept live records tagged →
      (found : Found) → found.log.records ≡ records → found.log.answers ≡ selected (Nearest q k) (hits_among tagged) → IsLogOf live (Nearest q k) found →
      IsTrue old.is_known → IsSoundTree s (nodes_of old.read) live → IsNearest s (nodes_of old.read) live q k old now found
  nearest_ends some now state rho opened explored records tagged logged found are answers named is_known sound =
      let end = ends s axioms (nodes_of old.read) live q q_fits k sound some state.kept state.queue state.best explored.exploring.pages (explored.exploring.holds is_known sound) rho explored.radius explored.beyond (hits_among tagged) records logged.left
      (logged.walk s q (nodes_of old.read) (explored.exploring.agrees is_known rho explored.radius)).0 logged.ends in
      let long : length found.log.records ≡ opened = ap length are ∙ end.1 ∙ explored.exploring.long in
      let search : search_at s q rho ≡ search_for s found.log.query found.log.answers =
      ap (search_at s q) (sym end.2) ∙ (λ i. search_for s (sym named.query_is i) (sym answers i)) in
      let least : IsLeastLog s (nodes_of old.read) live (Nearest q k) found.log = (
        named.query_is,
        record {
          generation_is = named.generation_is;
          root_is = named.root_is;
          point_fits = rw named.query_is q_fits;
          hits = hits_among tagged;
          walk = subst (λ (g : Search). WalksBy AreLeast g (nodes_of old.read) (root_need live.root ∷ []) found.log.records (hits_among tagged)) search
              (subst (λ (rs : List Record). WalksBy AreLeast (search_at s q rho) (nodes_of old.read) (root_need live.root ∷ []) rs (hits_among tagged)) (sym are) end.0);
          answers_are = rw named.query_is answers;
        },
      ) in
      record {
        scanned =
            named.hits_are ∙ sound_complete s (nodes_of old.read) live found.log axioms sound (least_sound s (nodes_of old.read) live (Nearest q k) found.log least)
            ∙ ap (λ (u : Query). scan_answers s u (points_by_id (nodes_of old.read) live)) named.query_is;
        least = least;
        asked = explored.exploring.asked ∙ ap (count_up old.asked) (sym long);
        reads = (let r = explored.exploring.reads in omega arith);
      }

  -- on a sound tree at most one distance was computed for each entry that the log marks
  pub nearest_spent : 1 ≤ k → (now : Shelf) (state : State) (rho opened : ℕ) → IsExplored s old now live q k state rho opened used → (records : List Record) (tagged : List TaggedHit) → IsRebuiltLog rho state.kept live records tagged →
      (found : Found) → found.log.records ≡ records → IsTrue old.is_known → IsSoundTree s (nodes_of old.read) live → state.used ≤ used + marks_in found.log.records
  nearest_spent some now state rho opened explored records tagged logged found are is_known sound =
      let end = ends s axioms (nodes_of old.read) live q q_fits k sound some state.kept state.queue state.best explored.exploring.pages (explored.exploring.holds is_known sound) rho explored.radius explored.beyond (hits_among tagged) records logged.left
      (logged.walk s q (nodes_of old.read) (explored.exploring.agrees is_known rho explored.radius)).0 logged.ends in
      let spent = explored.exploring.spent is_known in
      rw are (let entries = end.3 in omega arith)

  -- on any tree the log is a front of the walk, with the root's record
  pub nearest_front : (now : Shelf) (state : State) (rho opened : ℕ) → IsExplored s old now live q k state rho opened used → (records : List Record) (tagged : List TaggedHit) →
      IsRebuiltLog rho state.kept live records tagged → (found : Found) → found.log.records ≡ records → found.log.answers ≡ selected (Nearest q k) (hits_among tagged) → IsTrue old.is_known →
      IsFront s (nodes_of old.read) live q k found.log
  nearest_front now state rho opened explored records tagged logged found are answers is_known = record {
    rho = rho;
    hits = hits_among tagged;
    left = logged.left;
    walk = subst (λ (rs : List Record). ReachesBy AreLeast (search_at s q rho) (nodes_of old.read) (root_need live.root ∷ []) rs (hits_among tagged) logged.left) (sym are)
        walked;
    some = rw are (root_opened records logged.left walked logged.ends);
    answers_are = answers;
  }
    where
      walked : ReachesBy AreLeast (search_at s q rho) (nodes_of old.read) (root_need live.root ∷ []) records (hits_among tagged) logged.left
      walked = (logged.walk s q (nodes_of old.read) (explored.exploring.agrees is_known rho explored.radius)).0

      beyond_root : IsIn (pending_root live.root) state.queue → ⊥
      beyond_root waits = let b : rho < 0 = explored.beyond (pending_root live.root) waits in omega arith

      root_kept : (1 ≤ opened) × IsKept state.kept live.root None
      root_kept = elim explored.exploring.begun [ inl w ↦ w | inr waits ↦ absurd (beyond_root waits) ]

      root_opened : (rs : List Record) (left : List Need) → ReachesBy AreLeast (search_at s q rho) (nodes_of old.read) (root_need live.root ∷ []) rs (hits_among tagged) left → IsStopped state.kept live rs left → 1 ≤ length rs
      root_opened (r ∷ rs) left walk stopped = omega arith
      root_opened [] left walk stopped =
          elim (subst (IsStopped state.kept live []) walk.1 stopped) [
            | inl all ↦ absurd (let f = explored.exploring.few in let o = root_kept.0 in omega arith)
            | inr none ↦ absurd (let some = root_kept.1.1 in cc)
          ]

  -- the log's walk meets what the search keeps with tags
  pub nearest_tagged : (now : Shelf) (state : State) (rho opened : ℕ) → IsExplored s old now live q k state rho opened used → (records : List Record) (tagged : List TaggedHit) →
      IsRebuiltLog rho state.kept live records tagged → (found : Found) → found.log.records ≡ records → found.tagged ≡ tagged → IsTrue old.is_known →
      found.tagged ≡ tagged_by s q (nodes_of old.read) live.root found.log.records
  nearest_tagged now state rho opened explored records tagged logged found are same is_known =
      same ∙ (logged.walk s q (nodes_of old.read) (explored.exploring.agrees is_known rho explored.radius)).1 ∙ ap (tagged_by s q (nodes_of old.read) live.root) (sym are)

-- the walk over what is kept

pub rebuilding_begins : (rho : ℕ) (kept : Sheets) (root : ℕ) (rs : List Record) (tagged : List TaggedHit) (stack : List Need) → rs ≡ [] → tagged ≡ [] → stack ≡ root_need root ∷ [] → IsRebuilding rho kept root rs tagged (reverse stack)
rebuilding_begins rho kept root rs tagged stack none no_hits one = rw (none, no_hits, one) (record { walk = λ s q nodes seen. ((refl, refl), refl); few_marks = tt; few_hits = omega arith })

-- what was seen of a node is taken in as the node would be
takes_node : (s : Space) (q : List ℕ) (rho : ℕ) (n : Need) (node : Node) (seen : Seen) (old new : Traversal) → IsSeenOf s q rho n.above node seen → TakesSeen rho n seen old new → TakesNode (search_at s q rho) n node old new
takes_node s q rho n (Leaf es) (Objects count xs) old new is takes = record {
  tagged = takes.tagged ∙ ap (λ (ts : List TaggedHit). old.tagged.items ++ ts) (ap (λ (l : List Sight). map tagged_seen (seen_near rho l)) is.3 ∙ objects_named s q rho is.0 is.1 n.above es);
  records = takes.records ∙ ap (λ (ms : List Mark). old.records.items ++ record { page = n.page; marks = ms } ∷ []) ((λ i. marks_seen rho (is.2 i) (is.3 i)) ∙ objects_marked s q rho is.0 is.1 n.above es);
  needs = takes.needs;
}
takes_node s q rho n (Leaf es) (Subtrees count xs) old new is takes = absurd is
takes_node s q rho n (Inner level es) (Objects count xs) old new is takes = absurd is
takes_node s q rho n (Inner level es) (Subtrees count xs) old new is takes = record {
  tagged = takes.tagged;
  records = takes.records ∙ ap (λ (ms : List Mark). old.records.items ++ record { page = n.page; marks = ms } ∷ []) ((λ i. marks_seen rho (is.2 i) (is.3 i)) ∙ subtrees_marked s q rho is.0 is.1 n.above es);
  needs = takes.needs ∙ ap (λ (ns : List Need). ns ++ reverse old.stack.items) (ap (λ (l : List Sight). map need_seen (seen_near rho l)) is.3 ∙ subtrees_needed s q rho is.0 is.1 n.above es);
}

few_near : (rho : ℕ) (xs : List Sight) → length (seen_near rho xs) ≤ length xs
few_near rho [] = omega arith
few_near rho (x ∷ xs) = cases (is_near (mark_at rho x)) (few_near rho xs)
  where
    cases : (b : Bool) → length (seen_near rho xs) ≤ length xs → length (cond b (x ∷ seen_near rho xs) (seen_near rho xs)) ≤ suc (length xs)
    cases true ih = omega arith
    cases false ih = omega arith

few_named : (rho : ℕ) (seen : Seen) → length (tagged_near rho seen) ≤ length (sights seen)
few_named rho (Objects count xs) = let few = few_near rho xs in let same = length-map (seen_near rho xs) tagged_seen in omega arith
few_named rho (Subtrees count xs) = omega arith

pub rebuilding_steps : (rho : ℕ) (kept : Sheets) (root : ℕ) (one other : Traversal) (n : Need) (rest : List Need) (seen : Seen) → reverse one.stack.items ≡ n ∷ rest → KeepsFew kept → kept n.page n.above ≡ Some seen →
    (mid : Traversal) → mid.records.items ≡ one.records.items → mid.tagged.items ≡ one.tagged.items → reverse mid.stack.items ≡ rest → TakesSeen rho n seen mid other →
    IsRebuilding rho kept root one.records.items one.tagged.items (reverse one.stack.items) → IsRebuilding rho kept root other.records.items other.tagged.items (reverse other.stack.items)
rebuilding_steps rho kept root one other n rest seen top few is mid records tagged left takes before =
    let rs : other.records.items ≡ one.records.items ++ record_seen rho n.page seen ∷ [] = takes.records ∙ ap (λ (l : List Record). l ++ record_seen rho n.page seen ∷ []) records in
    let ts : other.tagged.items ≡ one.tagged.items ++ tagged_near rho seen = takes.tagged ∙ ap (λ (l : List TaggedHit). l ++ tagged_near rho seen) tagged in
    let entries = few n.page n.above seen is in
    let few_marks : length (marks_seen rho (count_of seen) (sights seen)) ≤ 32 = omega (arith, entries.few, length-marks rho (count_of seen) (sights seen)) in
    let named : length (tagged_near rho seen) ≤ 32 = omega (arith, few_named rho seen, entries.few, entries.no_more) in
    let long = length-append one.records.items (record_seen rho n.page seen ∷ []) in
    let more = length-append one.tagged.items (tagged_near rho seen) in
    let b = before.few_hits in
    record {
      walk = λ s q nodes are. walks s q nodes (before.walk s q nodes are) (are n.page n.above seen is);
      few_marks = rw rs (all_append (λ (r : Record). length r.marks ≤ 32) one.records.items (record_seen rho n.page seen ∷ []) before.few_marks (few_marks, tt));
      few_hits = rw (rs, ts) (omega arith);
    }
  where
    walks : (s : Space) (q : List ℕ) (nodes : Nodes) →
        ReachesBy AreLeast (search_at s q rho) nodes (root_need root ∷ []) one.records.items (hits_among one.tagged.items) (reverse one.stack.items) × (one.tagged.items ≡ tagged_by s q nodes root one.records.items) →
        (node : Node) × (nodes n.page ≡ Some node) × IsSeenOf s q rho n.above node seen →
        ReachesBy AreLeast (search_at s q rho) nodes (root_need root ∷ []) other.records.items (hits_among other.tagged.items) (reverse other.stack.items) × (other.tagged.items ≡ tagged_by s q nodes root other.records.items)
    walks s q nodes walk node =
        let f : Search = search_at s q rho in
        let marks : List Mark = least_marks f n.above node.0 in
        let met : List TaggedHit = map (tagged_of s q) (near_objects node.0 marks) in
        let taken : TakesNode f n node.0 mid other = takes_node s q rho n node.0 seen mid other node.2 takes in
        let rs : other.records.items ≡ one.records.items ++ record_of f n node.0 ∷ [] = taken.records ∙ ap (λ (l : List Record). l ++ record_of f n node.0 ∷ []) records in
        let ts : other.tagged.items ≡ one.tagged.items ++ met = taken.tagged ∙ ap (λ (l : List TaggedHit). l ++ met) tagged in
        let hs : hits_among other.tagged.items ≡ hits_among one.tagged.items ++ hits_of f node.0 marks = hits_more f node.0 marks one.tagged.items other.tagged.items ts in
        let ns : reverse other.stack.items ≡ needs_of f node.0 marks ++ rest = taken.needs ∙ ap (λ (l : List Need). needs_of f node.0 marks ++ l) left in
        let so_far : ReachesBy AreLeast f nodes (root_need root ∷ []) one.records.items (hits_among one.tagged.items) (n ∷ rest) =
        subst (λ (l : List Need). ReachesBy AreLeast f nodes (root_need root ∷ []) one.records.items (hits_among one.tagged.items) l) top walk.0 in (
          rw (rs, hs, ns) (reaches_more AreLeast f nodes (root_need root ∷ []) one.records.items (hits_among one.tagged.items) n rest node.0 marks node.1 refl so_far),
          ts ∙ ap (λ (l : List TaggedHit). l ++ met) walk.1 ∙ sym (tagged_more f nodes n rest node.0 node.1 root one.records.items (hits_among one.tagged.items) so_far)
              ∙ ap (tagged_by s q nodes root) (sym rs),
        )
