-- One step of the machine, and its end.
use Rattle.std.proofs.Common.{◌≡◌, ℕ, zero, suc, ◌+◌, ◌-◌, ◌<◌, ◌≤◌, ◌⊎◌, Bool, true, false, List, [], ◌∷◌, ◌++◌, refl, sym, ap, inl, inr, arith, ◌∙◌, min, subst, Option, Some, None}
use Rattle.std.specs.Prelude.{IsTrue, map, filter, nat_le, if◌then◌else◌, IsPermutation}
use Rattle.std.specs.List.{AllByRecursion}
use Rattle.std.proofs.lemmas.Bool.Decides.{nat_tests}
use Rattle.metric_laws.specs.Space.{Space, IsSpace, bound}
use Rattle.metric_laws.specs.Lists.{IsIn}
use Rattle.metric_laws.proofs.Published.{all_weaker, all_in, in-filter, filter-in, in-map, map-in, in-append_left, in-append_right}
use Rattle.tree_shape.specs.declared.entry.LeafEntry.{LeafEntry}
use Rattle.tree_shape.specs.declared.entry.InnerEntry.{InnerEntry}
use Rattle.tree_shape.specs.declared.entry.Node.{Node}
use Rattle.tree_shape.specs.declared.entry.Node.TheVariants.{Leaf, Inner}
use Rattle.tree_shape.specs.Tree.{Nodes, IsSoundAt, objects_at, inner_entries}
use Rattle.tree_shape.specs.Fill.{least_for}
use Rattle.tree_shape.proofs.Published.{SoundSubtree}
use Rattle.log_model.specs.Walk.{Search, away, search_at}
use Rattle.log_model.proofs.Published.{FitsAbove, point_above, held, same_node}
use Rattle.nearest_search.specs.declared.pending.Pending.{Pending}
use Rattle.nearest_search.specs.Keeping.{Sheets, IsKept}
use Rattle.nearest_search.specs.Seeing.{Seen}
use Rattle.nearest_search.specs.Counts.{total, one_within, within, IsRadius}
use Rattle.nearest_search.specs.Machine.{objects_below, count_near, count_below, pending_of, pending_root, dists_of, pendings_of, reaches, opens, opens_of, IsFinal, far_above, FitsUp, IsPending, IsClosed, Holds}
use Rattle.nearest_search.proofs.Totals.{total-append, total-flat_map, total-none, total-permutation, in-permutation, in-permutation_back, within_all, within_more}
use Rattle.nearest_search.proofs.Near.{level_is, near_reaches, leaf_answers, leaf_covered, inner_covered, opens_covered}
use Rattle.nearest_search.proofs.Arithmetic.{counts_step}

pub above_same : (f : Search) (u : Option (List ℕ)) → far_above f u ≡ point_above f u
above_same f None = refl
above_same f (Some p) = refl

pub fits_same : (s : Space) (u : Option (List ℕ)) → FitsUp s u → FitsAbove s u
fits_same s None fit = tt
fits_same s (Some p) fit = fit

pub far_above_at : (s : Space) (q : List ℕ) (r t : ℕ) (u : Option (List ℕ)) → far_above (search_at s q r) u ≡ far_above (search_at s q t) u
far_above_at s q r t None = refl
far_above_at s q r t (Some p) = refl

module _ (s : Space) (axioms : IsSpace s) (q : List ℕ) (q_fits : IsTrue (s.is_point q)) (nodes : Nodes) where
  -- the search at a radius
  abbrev pub at : ℕ → Search
  at r = search_at s q r

  -- what an opened node adds is what its subtree holds, up to the radius
  pub covered : (rho h least : ℕ) (above : Option (List ℕ)) (page : ℕ) (node : Node) → IsSoundAt s nodes h least above page → FitsUp s above → nodes page ≡ Some node →
      (r : ℕ) → r ≤ rho →
      count_near (at 0) r (objects_at nodes h page)
      ≡ within r (dists_of (at rho) (far_above (at 0) above) node) + total (count_below (at 0) nodes r) (pendings_of (at rho) (far_above (at 0) above) node)
  covered rho zero least above page node sound fit is r low =
      let e : node ≡ Leaf sound.0 = same_node (nodes page) node (Leaf sound.0) is sound.1 in
      rw (e, sound.1, far_above_at s q 0 rho above, above_same (at rho) above, leaf_answers (at rho) axioms q_fits above (fits_same s above fit) sound.0 sound.3)
      (let c = leaf_covered (at rho) axioms q_fits sound.0 r low in omega arith)
  covered rho (suc h) least above page node sound fit is r low =
      let e : node ≡ Inner (suc h) sound.0 = same_node (nodes page) node (Inner (suc h) sound.0) is sound.1 in
      rw (e, sound.1, far_above_at s q 0 rho above, above_same (at rho) above, near_reaches (at rho) axioms q_fits nodes h above (fits_same s above fit) sound.0 sound.3)
      (let c = inner_covered (at rho) axioms q_fits nodes h above sound.0 sound.3 r low in
      let d = total-flat_map (λ o. one_within r (away (at 0) o.point)) (λ e. objects_at nodes h e.child) sound.0 in omega arith)

  -- what an opened node queues is sound
  pub queues_sound : (rho h least : ℕ) (above : Option (List ℕ)) (page : ℕ) (node : Node) → IsSoundAt s nodes h least above page → FitsUp s above → nodes page ≡ Some node →
      (x : Pending) → IsIn x (pendings_of (at rho) (far_above (at 0) above) node) → IsPending (at 0) nodes x
  queues_sound rho zero least above page node sound fit is x k =
      let e : node ≡ Leaf sound.0 = same_node (nodes page) node (Leaf sound.0) is sound.1 in
      absurd (let w : IsIn x [] = rw e at k in w)
  queues_sound rho (suc h) least above page node sound fit is x k =
      let e : node ≡ Inner (suc h) sound.0 = same_node (nodes page) node (Inner (suc h) sound.0) is sound.1 in
      let w : IsIn x (map (pending_of (at rho)) (filter (reaches (at rho)) sound.0)) =
      subst (λ (es : List InnerEntry). IsIn x (map (pending_of (at rho)) es)) (near_reaches (at rho) axioms q_fits nodes h above (fits_same s above fit) sound.0 sound.3)
      (subst (λ (o : Option ℕ). IsIn x (pendings_of (at rho) o (Inner (suc h) sound.0))) (far_above_at s q 0 rho above ∙ above_same (at rho) above)
      (subst (λ (n : Node). IsIn x (pendings_of (at rho) (far_above (at 0) above) n)) e k)) in
      let from = in-map (pending_of (at rho)) (filter (reaches (at rho)) sound.0) x w in
      let there = in-filter (reaches (at rho)) sound.0 from.0 from.1 in
      subst (λ (y : Pending). IsPending (at 0) nodes y) (sym from.2) (one from.0 (all_in (SoundSubtree s nodes h above) sound.0 from.0 sound.3 there.0))
    where
      low : (e : InnerEntry) → SoundSubtree s nodes h above e → (o : LeafEntry) → IsTrue (s.is_point o.point) → s.dist o.point e.point ≤ e.radius → away (at rho) e.point - e.radius ≤ away (at 0) o.point
      low e sub o o_fits near =
          let t = axioms.triangle e.point o.point q sub.0.point_fits o_fits q_fits in
          let y = axioms.symmetric e.point o.point sub.0.point_fits o_fits in omega arith

      one : (e : InnerEntry) → SoundSubtree s nodes h above e → IsPending (at 0) nodes (pending_of (at rho) e)
      one e sub = record {
        height = h;
        least = least_for s.dimension;
        above = Some e.point;
        sound = sub.1;
        is_point = sub.0.point_fits;
        above_is = refl;
        low_is = all_weaker (λ o. IsTrue (s.is_point o.point) × (s.dist o.point e.point ≤ e.radius)) (λ o. away (at rho) e.point - e.radius ≤ away (at 0) o.point)
            (objects_at nodes h e.child) (λ o w. low e sub o w.0 w.1) (held s nodes h above e sub);
      }

  -- none of these is within r
  pub none_within : (r low : ℕ) → r < low → (os : List LeafEntry) → AllByRecursion (λ o. low ≤ away (at 0) o.point) os → count_near (at 0) r os ≡ 0
  none_within r low far [] all = refl
  none_within r low far (o ∷ os) all =
      let h = all.0 in let ih = none_within r low far os all.1 in let z : ◌≡◌ {A = ℕ} (if nat_le (away (at 0) o.point) r then 1 else 0) 0 = grind (arith, nat_tests) in omega arith

  pub below_is : (x : Pending) → (p : IsPending (at 0) nodes x) → objects_below nodes x.page ≡ objects_at nodes p.height x.page
  below_is x p = ap (λ l. objects_at nodes l x.page) (level_is s nodes p.height p.least p.above x.page p.sound)

  pub pending_far : (r : ℕ) (x : Pending) → IsPending (at 0) nodes x → r < x.low → count_below (at 0) nodes r x ≡ 0
  pending_far r x p far = rw (below_is x p) (none_within r x.low far (objects_at nodes p.height x.page) p.low_is)

  module _ (k root : ℕ) where
    -- how many objects are within r
    abbrev pub counted : ℕ → ℕ
    counted r = count_near (at 0) r (objects_below nodes root)

    module _ (kept : Sheets) (queue : List Pending) (best : List ℕ) (opened : List ℕ) (holds : Holds s nodes q k root kept queue best opened) (rho : ℕ) (radius : IsRadius k best rho) where
      -- where all queued subtrees are beyond r, the least distances tell how many are within
      pub all_beyond : (r : ℕ) → r ≤ bound → ((x : Pending) → IsIn x queue → r < x.low) → min k (within r best) ≡ min k (counted r)
      all_beyond r low far =
          let c = holds.counts r low in
          let z = total-none (count_below (at 0) nodes r) queue (λ x i. pending_far r x (holds.queued x i) (far x i)) in
          omega arith

      -- the radius never falls below the final one
      pub radius_high : (final : ℕ) → IsFinal k counted final → final ≤ rho
      radius_high final is = cases (nat_le final rho) refl
        where
          cases : (b : Bool) → nat_le final rho ≡ b → final ≤ rho
          cases true e = grind (arith, nat_tests)
          cases false e =
              let less : rho < final = grind (arith, nat_tests) in
              let b = is.bounded in
              let full = radius.full (omega arith) in
              let all = within_all rho best radius.most in
              let few = is.fewer rho less in
              let c = holds.counts rho (omega arith) in
              absurd (omega arith)

      -- what is opened next is within the final radius
      pub next_low : (x : Pending) → x.low ≤ rho → ((y : Pending) → IsIn y queue → x.low ≤ y.low) → (final : ℕ) → IsFinal k counted final → x.low ≤ final
      next_low x low first final is = cases (nat_le x.low final) refl
        where
          cases : (b : Bool) → nat_le x.low final ≡ b → x.low ≤ final
          cases true e = grind (arith, nat_tests)
          cases false e =
              let less : final < x.low = grind (arith, nat_tests) in
              let rb = radius.bounded in
              let enough = is.enough (omega arith) in
              let few = radius.fewer final (omega arith) in
              let c = all_beyond final is.bounded (λ y i. let g = first y i in omega arith) in
              absurd (omega arith)

      -- where all queued subtrees are beyond the radius, it is the final one
      pub final_at_end : ((x : Pending) → IsIn x queue → rho < x.low) → IsFinal k counted rho
      final_at_end far = record {
        bounded = radius.bounded;
        fewer = λ r less. (let few = radius.fewer r less in let rb = radius.bounded in
            let c = all_beyond r (omega arith) (λ x i. let g = far x i in omega arith) in omega arith);
        enough = λ less. (let full = radius.full less in let all = within_all rho best radius.most in let c = all_beyond rho radius.bounded far in omega arith);
      }

  -- an entry that reaches is queued
  pub queues : (rho h least : ℕ) (above : Option (List ℕ)) (page : ℕ) (node : Node) → IsSoundAt s nodes h least above page → FitsUp s above → nodes page ≡ Some node →
      (e : InnerEntry) → IsIn e (inner_entries (Some node)) → IsTrue (reaches (at rho) e) → IsIn (pending_of (at rho) e) (pendings_of (at rho) (far_above (at 0) above) node)
  queues rho zero least above page node sound fit is e k far =
      let same : node ≡ Leaf sound.0 = same_node (nodes page) node (Leaf sound.0) is sound.1 in
      absurd (let w : IsIn e [] = subst (λ (n : Node). IsIn e (inner_entries (Some n))) same k in w)
  queues rho (suc h) least above page node sound fit is e k far =
      let same : node ≡ Inner (suc h) sound.0 = same_node (nodes page) node (Inner (suc h) sound.0) is sound.1 in
      let w : IsIn e sound.0 = subst (λ (n : Node). IsIn e (inner_entries (Some n))) same k in
      subst (λ (n : Node). IsIn (pending_of (at rho) e) (pendings_of (at rho) (far_above (at 0) above) n)) (sym same)
      (subst (λ (o : Option ℕ). IsIn (pending_of (at rho) e) (pendings_of (at rho) o (Inner (suc h) sound.0))) (sym (far_above_at s q 0 rho above ∙ above_same (at rho) above))
      (subst (λ (es : List InnerEntry). IsIn (pending_of (at rho) e) (map (pending_of (at rho)) es)) (sym (near_reaches (at rho) axioms q_fits nodes h above (fits_same s above fit) sound.0 sound.3))
      (map-in (pending_of (at rho)) (filter (reaches (at rho)) sound.0) e (filter-in (reaches (at rho)) sound.0 e w far))))

  -- the pages that the final walk opens below an opened page are those below what it queues, and itself
  pub opens_more : (w : ℕ → ℕ) (rho final : ℕ) → final ≤ rho → (h least : ℕ) (above : Option (List ℕ)) (page : ℕ) (node : Node) → IsSoundAt s nodes h least above page → FitsUp s above → nodes page ≡ Some node →
      opens w (at final) nodes h page ≡ w page + total (opens_of w (at final) nodes) (pendings_of (at rho) (far_above (at 0) above) node)
  opens_more w rho final low zero least above page node sound fit is =
      let same : node ≡ Leaf sound.0 = same_node (nodes page) node (Leaf sound.0) is sound.1 in
      subst (λ (n : Node). w page ≡ w page + total (opens_of w (at final) nodes) (pendings_of (at rho) (far_above (at 0) above) n)) (sym same) (omega arith)
  opens_more w rho final low (suc h) least above page node sound fit is =
      let same : node ≡ Inner (suc h) sound.0 = same_node (nodes page) node (Inner (suc h) sound.0) is sound.1 in
      rw (same, sound.1, far_above_at s q 0 rho above, above_same (at rho) above, near_reaches (at rho) axioms q_fits nodes h above (fits_same s above fit) sound.0 sound.3)
      (ap (λ n. w page + n) (opens_covered w (at rho) (at final) refl nodes h above sound.0 sound.3 (λ p. refl) low))

  module _ (k root : ℕ) (kept : Sheets) (queue : List Pending) (best : List ℕ) (opened : List ℕ) (holds : Holds s nodes q k root kept queue best opened) (rho : ℕ) (radius : IsRadius k best rho) where
    module _ (x : Pending) (rest : List Pending) (popped : IsPermutation queue (x ∷ rest)) (low : x.low ≤ rho) (first : (y : Pending) → IsIn y queue → x.low ≤ y.low) (node : Node) (is : nodes x.page ≡ Some node) where
      pub waited : IsPending (at 0) nodes x
      waited = holds.queued x (in-permutation_back queue (x ∷ rest) x popped (inl refl))

      pub covered_here : (r : ℕ) → r ≤ rho → count_below (at 0) nodes r x ≡ within r (dists_of (at rho) x.above node) + total (count_below (at 0) nodes r) (pendings_of (at rho) x.above node)
      covered_here r near =
          rw (waited.above_is, below_is x waited) (covered rho waited.height waited.least waited.above x.page node waited.sound waited.is_point is r near)

      pub queues_here : (e : InnerEntry) → IsIn e (inner_entries (Some node)) → IsTrue (reaches (at rho) e) → IsIn (pending_of (at rho) e) (pendings_of (at rho) x.above node)
      queues_here e i far =
          subst (λ (o : Option ℕ). IsIn (pending_of (at rho) e) (pendings_of (at rho) o node)) (sym waited.above_is)
          (queues rho waited.height waited.least waited.above x.page node waited.sound waited.is_point is e i far)

      pub sound_here : (y : Pending) → IsIn y (pendings_of (at rho) x.above node) → IsPending (at 0) nodes y
      sound_here y i =
          queues_sound rho waited.height waited.least waited.above x.page node waited.sound waited.is_point is y
          (subst (λ (o : Option ℕ). IsIn y (pendings_of (at rho) o node)) waited.above_is i)

      pub opens_here : (w : ℕ → ℕ) (final : ℕ) → final ≤ rho → x.low ≤ final → opens_of w (at final) nodes x ≡ w x.page + total (opens_of w (at final) nodes) (pendings_of (at rho) x.above node)
      opens_here w final high reach =
          let yes_low : nat_le x.low final ≡ true = grind (arith, nat_tests) in
          let deep : opens_of w (at final) nodes x ≡ opens w (at final) nodes waited.height x.page =
          rw (yes_low, level_is s nodes waited.height waited.least waited.above x.page waited.sound) refl in
          deep ∙ opens_more w rho final high waited.height waited.least waited.above x.page node waited.sound waited.is_point is
          ∙ ap (λ (o : Option ℕ). w x.page + total (opens_of w (at final) nodes) (pendings_of (at rho) o node)) (sym waited.above_is)

      -- the state after the page was opened
      module _ (queue' : List Pending) (pushed : IsPermutation (pendings_of (at rho) x.above node ++ rest) queue') (best' : List ℕ)
          (noted : (r : ℕ) → min k (within r best') ≡ min k (within r best + within r (dists_of (at rho) x.above node)))
          (kept' : Sheets) (seen : Seen) (here : kept' x.page x.above ≡ Some seen) (others : (page : ℕ) (above : Option ℕ) → ((page ≡ x.page) × (above ≡ x.above)) ⊎ (kept' page above ≡ kept page above)) where
        pub total_after : (g : Pending → ℕ) → total g queue' ≡ total g (pendings_of (at rho) x.above node) + total g rest
        total_after g = sym (total-permutation g (pendings_of (at rho) x.above node ++ rest) queue' pushed) ∙ total-append g (pendings_of (at rho) x.above node) rest

        pub total_before : (g : Pending → ℕ) → total g queue ≡ g x + total g rest
        total_before g = total-permutation g queue (x ∷ rest) popped

        pub counts_after : (r : ℕ) → r ≤ bound →
            min k (within r best' + total (count_below (at 0) nodes r) queue') ≡ min k (count_near (at 0) r (objects_below nodes root))
        counts_after r below =
            rw (total_after (count_below (at 0) nodes r))
            (counts_step k (within r best) (within r best') (within r (dists_of (at rho) x.above node)) (total (count_below (at 0) nodes r) (pendings_of (at rho) x.above node))
            (count_below (at 0) nodes r x) (total (count_below (at 0) nodes r) rest) (min k (count_near (at 0) r (objects_below nodes root)))
            (noted r) (cases (nat_le r rho) refl) (rw (total_before (count_below (at 0) nodes r)) at (holds.counts r below)))
          where
            cases : (b : Bool) → nat_le r rho ≡ b →
                (count_below (at 0) nodes r x ≡ within r (dists_of (at rho) x.above node) + total (count_below (at 0) nodes r) (pendings_of (at rho) x.above node)) ⊎ (k ≤ within r best)
            cases true e = inl (covered_here r (let l : r ≤ rho = grind (arith, nat_tests) in l))
            cases false e =
                inr (let l : rho < r = grind (arith, nat_tests) in let full = radius.full (omega arith) in
                let all = within_all rho best radius.most in let more = within_more rho r best (omega arith) in omega arith)

        pub queued_after : (y : Pending) → IsIn y queue' → IsPending (at 0) nodes y
        queued_after y i = either (pendings_of (at rho) x.above node) (λ z. sound_here z) (in-permutation_back (pendings_of (at rho) x.above node ++ rest) queue' y pushed i)
          where
            either : (new : List Pending) → ((z : Pending) → IsIn z new → IsPending (at 0) nodes z) → IsIn y (new ++ rest) → IsPending (at 0) nodes y
            either [] fresh i = holds.queued y (in-permutation_back queue (x ∷ rest) y popped (inr i))
            either (z ∷ new) fresh i = elim i [ inl e ↦ fresh y (inl e) | inr w ↦ either new (λ v j. fresh v (inr j)) w ]

        pub kept_after : (page : ℕ) (above : Option ℕ) → IsKept kept page above → IsKept kept' page above
        kept_after page above old = elim (others page above) [ inl same ↦ (seen, rw (same.0, same.1) here) | inr same ↦ (old.0, same ∙ old.1) ]

        -- what was queued is still queued, or was opened
        pub waits_after : (y : Pending) → IsIn y queue → IsKept kept' y.page y.above ⊎ IsIn y queue'
        waits_after y i =
            elim (in-permutation queue (x ∷ rest) y popped i) [
              | inl e ↦ inl (seen, ap (λ (z : Pending). kept' z.page z.above) e ∙ here)
              | inr w ↦ inr (in-permutation (pendings_of (at rho) x.above node ++ rest) queue' y pushed (in-append_right (pendings_of (at rho) x.above node) rest y w))
            ]

        pub closed_after : (final : ℕ) → IsFinal k (λ r. count_near (at 0) r (objects_below nodes root)) final → IsClosed (at final) nodes kept' root queue' (x.page ∷ opened)
        closed_after final final_is = record {
          begun = elim old.begun [ inl w ↦ inl (kept_after root None w) | inr w ↦ waits_after (pending_root root) w ];
          reached = λ page above k' e i far. cases page above k' e i far (others page above);
          weighed = λ w.
              (let o = old.weighed w in let a = total_after (opens_of w (at final) nodes) in let b = total_before (opens_of w (at final) nodes) in
              let h = opens_here w final high (next_low k root kept queue best opened holds rho radius x low first final final_is) in omega arith);
        }
          where
            old : IsClosed (at final) nodes kept root queue opened
            old = holds.closed final final_is

            high : final ≤ rho
            high = radius_high k root kept queue best opened holds rho radius final final_is

            wider : (e : InnerEntry) → IsTrue (reaches (at final) e) → IsTrue (reaches (at rho) e)
            wider e far = let h = high in grind (arith, nat_tests)

            cases : (page : ℕ) (above : Option ℕ) → IsKept kept' page above → (e : InnerEntry) → IsIn e (inner_entries (nodes page)) → IsTrue (reaches (at final) e) →
                ((page ≡ x.page) × (above ≡ x.above)) ⊎ (kept' page above ≡ kept page above) → IsKept kept' e.child (Some (away (at final) e.point)) ⊎ IsIn (pending_of (at final) e) queue'
            cases page above k' e i far (inl same) =
                inr (in-permutation (pendings_of (at rho) x.above node ++ rest) queue' (pending_of (at rho) e) pushed
                (in-append_left (pendings_of (at rho) x.above node) rest (pending_of (at rho) e)
                (queues_here e (subst (λ (o : Option Node). IsIn e (inner_entries o)) (ap nodes same.0 ∙ is) i) (wider e far))))
            cases page above k' e i far (inr same) =
                elim (old.reached page above (k'.0, sym same ∙ k'.1) e i far) [ inl w ↦ inl (kept_after e.child (Some (away (at final) e.point)) w) | inr w ↦ waits_after (pending_of (at final) e) w ]

        -- one step keeps what holds
        pub step : Holds s nodes q k root kept' queue' best' (x.page ∷ opened)
        step = record {
          queued = queued_after;
          counts = counts_after;
          closed = closed_after;
        }
