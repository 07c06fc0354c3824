-- The beginning and the end of the machine, on a sound tree.
use Rattle.std.proofs.Common.{◌≡◌, ℕ, zero, suc, ◌+◌, ◌<◌, ◌≤◌, true, false, List, [], ◌∷◌, refl, sym, ap, inl, inr, arith, ◌∙◌, length, take, subst, Option, Some, None}
use Rattle.std.specs.Prelude.{IsTrue, nat_le, IsPermutation}
use Rattle.std.specs.List.{AllByRecursion}
use Rattle.std.proofs.lemmas.Bool.Decides.{nat_tests}
use Rattle.metric_laws.specs.Space.{Space, IsSpace}
use Rattle.metric_laws.specs.Lists.{IsIn}
use Rattle.metric_laws.proofs.Published.{all_weaker}
use Rattle.scan_model.specs.declared.hit.Hit.{Hit}
use Rattle.scan_model.specs.declared.query.Query.TheVariants.{Nearest}
use Rattle.tree_shape.specs.declared.live.Live.{Live}
use Rattle.tree_shape.specs.declared.entry.LeafEntry.{LeafEntry}
use Rattle.tree_shape.specs.declared.entry.InnerEntry.{InnerEntry}
use Rattle.tree_shape.specs.Fill.{root_least}
use Rattle.tree_shape.specs.Tree.{Nodes, IsSoundTree, IsNodePage, objects_at, objects, pages_at, inner_entries}
use Rattle.tree_shape.proofs.Published.{few}
use Rattle.log_model.specs.declared.marks.Record.{Record}
use Rattle.log_model.specs.declared.marks.Need.{Need}
use Rattle.log_model.specs.InOrder.{in_order, hit_before}
use Rattle.log_model.specs.Sound.{pruning_radius}
use Rattle.log_model.specs.Walk.{Search, away, search_at, WalksBy, ReachesBy, AreLeast, AreAllowed, root_need}
use Rattle.log_model.proofs.Published.{Spot, answers_in, walks_wider, least_allowed, root_names}
use Rattle.nearest_search.specs.declared.pending.Pending.{Pending}
use Rattle.nearest_search.specs.Counts.{IsRadius, total}
use Rattle.nearest_search.specs.Machine.{level_of, objects_below, count_near, pending_of, pending_root, reaches, opens, opens_of, one_page, entries_of, IsFinal, IsPending, Holds}
use Rattle.nearest_search.specs.Searched.{marks_in}
use Rattle.nearest_search.specs.RebuiltLog.{IsStopped}
use Rattle.nearest_search.specs.Keeping.{Sheets, IsKept}
use Rattle.nearest_search.proofs.Totals.{total-none, total-permutation}
use Rattle.nearest_search.proofs.Near.{level_is}
use Rattle.nearest_search.proofs.Steps.{final_at_end, next_low}
use Rattle.nearest_search.proofs.Radius.{radius_at}
use Rattle.nearest_search.proofs.KeptWalk.{rebuilding_whole}
use Rattle.nearest_search.proofs.Fuel.{opens_few, has_final, records_of, marks_entries, total_ones, total_records}

pub all_low : (f : Search) (os : List LeafEntry) → AllByRecursion (λ o. 0 ≤ away f o.point) os
all_low f [] = tt
all_low f (o ∷ os) = (omega arith, all_low f os)

pub opens_some : (f : Search) (nodes : Nodes) (h page : ℕ) → 1 ≤ opens one_page f nodes h page
opens_some f nodes zero page = omega arith
opens_some f nodes (suc h) page = omega arith

module _ (s : Space) (axioms : IsSpace s) (nodes : Nodes) (live : Live) (q : List ℕ) (q_fits : IsTrue (s.is_point q)) (k : ℕ) (sound : IsSoundTree s nodes live) where
  abbrev pub root : ℕ
  root = live.root

  pub level : level_of (nodes root) ≡ live.height
  level = level_is s nodes live.height (root_least live.height) None live.root sound.parts

  pub begins : Holds s nodes q k root (λ page above. None) (pending_root root ∷ []) [] []
  begins = record {
    queued = λ x i. elim i [ inl e ↦ subst (λ (y : Pending). IsPending (search_at s q 0) nodes y) (sym e) whole | inr w ↦ absurd w ];
    counts = λ r low. omega arith;
    closed = λ rho final. record {
      begun = inr (inl refl);
      reached = λ page above kept e i far. absurd (let is = kept.1 in cc);
      weighed = λ w. (let z : nat_le 0 rho ≡ true = grind (arith, nat_tests) in rw z (omega arith));
    };
  }
    where
      whole : IsPending (search_at s q 0) nodes (pending_root root)
      whole = record {
        height = live.height;
        least = root_least live.height;
        above = None;
        sound = sound.parts;
        is_point = tt;
        above_is = refl;
        low_is = all_low (search_at s q 0) (objects_at nodes live.height root);
      }

  -- no more pages than the limit
  pub opens_low : (f : Search) → opens one_page f nodes (level_of (nodes root)) root ≤ live.pages
  opens_low f =
      let pages = few live.pages (pages_at nodes live.height live.root) (all_weaker (IsNodePage live) (λ p. p < live.pages) (pages_at nodes live.height live.root) (λ p k. k.1) sound.within) sound.once in
      let o = opens_few f nodes live.height live.root in
      rw level (omega arith)

  -- the search never comes to the limit
  pub room : (kept : Sheets) (queue : List Pending) (best : List ℕ) (opened : List ℕ) → Holds s nodes q k root kept queue best opened → (rho : ℕ) → IsRadius k best rho →
      (x : Pending) (rest : List Pending) → IsPermutation queue (x ∷ rest) → x.low ≤ rho → ((y : Pending) → IsIn y queue → x.low ≤ y.low) → length opened < live.pages
  room kept queue best opened holds rho radius x rest popped low first =
      let final = has_final k (λ r. count_near (search_at s q 0) r (objects_below nodes root)) in
      let reach = next_low s axioms q q_fits nodes k root kept queue best opened holds rho radius x low first final.0 final.1 in
      let is_low : nat_le x.low final.0 ≡ true = grind (arith, nat_tests) in
      let counted = (holds.closed final.0 final.1).weighed one_page in
      let ones = total_ones opened in
      let all = opens_low (search_at s q final.0) in
      let split = total-permutation (opens_of one_page (search_at s q final.0) nodes) queue (x ∷ rest) popped in
      let some = opens_some (search_at s q final.0) nodes (level_of (nodes x.page)) x.page in
      let here : opens_of one_page (search_at s q final.0) nodes x ≡ opens one_page (search_at s q final.0) nodes (level_of (nodes x.page)) x.page = rw is_low refl in
      omega arith

  module _ (some : 1 ≤ k) (kept : Sheets) (queue : List Pending) (best : List ℕ) (opened : List ℕ) (holds : Holds s nodes q k root kept queue best opened) (rho : ℕ) (radius : IsRadius k best rho)
      (beyond : (x : Pending) → IsIn x queue → rho < x.low) where
    abbrev pub f : Search
    f = search_at s q rho

    pub final : IsFinal k (λ r. count_near (search_at s q 0) r (objects_below nodes root)) rho
    final = final_at_end s axioms q q_fits nodes k root kept queue best opened holds rho radius beyond

    pub not_queued : (e : InnerEntry) → IsTrue (reaches f e) → IsIn (pending_of f e) queue → ⊥
    not_queued e far i = let b = beyond (pending_of f e) i in let l : away f e.point ≤ rho + e.radius = grind (arith, nat_tests) in omega arith

    pub children_kept : (page : ℕ) (above : Option ℕ) → IsKept kept page above → (e : InnerEntry) → IsIn e (inner_entries (nodes page)) → IsTrue (reaches f e) → IsKept kept e.child (Some (away f e.point))
    children_kept page above here e i far = elim ((holds.closed rho final).reached page above here e i far) [ inl w ↦ w | inr w ↦ absurd (not_queued e far w) ]

    pub root_kept : IsKept kept root None
    root_kept = elim (holds.closed rho final).begun [ inl w ↦ w | inr w ↦ absurd (let b = beyond (pending_root root) w in low b) ]
      where
        low : rho < 0 → ⊥
        low b = omega arith

    pub opened_all : (w : ℕ → ℕ) → total w opened ≡ opens w f nodes live.height live.root
    opened_all w =
        let c = (holds.closed rho final).weighed w in
        let z = total-none (opens_of w f nodes) queue (λ x i. none x (beyond x i)) in
        let l : opens w f nodes (level_of (nodes root)) root ≡ opens w f nodes live.height live.root = rw level refl in
        omega arith
      where
        none : (x : Pending) → rho < x.low → opens_of w f nodes x ≡ 0
        none x far = let n : nat_le x.low rho ≡ false = grind (arith, nat_tests) in rw n refl

    pub final_objects : IsFinal k (λ r. count_near (search_at s q 0) r (objects nodes live)) rho
    final_objects = subst (λ (os : List LeafEntry). IsFinal k (λ r. count_near (search_at s q 0) r os) rho) (ap (λ l. objects_at nodes l root) level) final

    -- the log that is written of what is kept is the least one, and its answers are the scan's
    pub ends : (hits : List Hit) (records : List Record) (left : List Need) → ReachesBy AreLeast f nodes (root_need root ∷ []) records hits left → IsStopped kept live records left →
        WalksBy AreLeast f nodes (root_need live.root ∷ []) records hits × (length records ≡ length opened) × (pruning_radius (Nearest q k) (take k (in_order hit_before hits)) ≡ rho)
        × (total (entries_of nodes) opened ≡ marks_in records)
    ends hits records left reached stopped = (walk, long, prunes, entries)
      where
        walk : WalksBy AreLeast f nodes (root_need live.root ∷ []) records hits
        walk = rebuilding_whole f nodes kept children_kept live sound root_kept records hits left reached stopped

        named : hits ≡ answers_in f (objects nodes live)
        named = root_names s axioms nodes live sound f refl q_fits records hits (walks_wider AreLeast AreAllowed f nodes (least_allowed f) (root_need live.root ∷ []) records hits walk)

        spot : Spot
        spot = record { height = live.height; least = root_least live.height; above = None; page = live.root }

        weighs : (w : ℕ → ℕ) → total (λ r. w r.page) records ≡ total w opened
        weighs w = let r = records_of w f axioms q_fits nodes records (spot ∷ []) ((sound.parts, tt), tt) hits walk in let o = opened_all w in omega arith

        long : length records ≡ length opened
        long = sym (total_records records) ∙ weighs one_page ∙ total_ones opened

        entries : total (entries_of nodes) opened ≡ marks_in records
        entries = sym (weighs (entries_of nodes)) ∙ marks_entries f nodes (root_need live.root ∷ []) records hits walk

        prunes : pruning_radius (Nearest q k) (take k (in_order hit_before hits)) ≡ rho
        prunes =
            ap (λ (hs : List Hit). pruning_radius (Nearest q k) (take k (in_order hit_before hs))) named
            ∙ radius_at s axioms q q_fits (objects nodes live) live.count k rho sound.ids some final_objects
