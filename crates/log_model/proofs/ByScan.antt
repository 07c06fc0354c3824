-- The answers among a tree's objects are those of the scan of its points.
use Rattle.std.proofs.Common.{◌≡◌, ℕ, zero, suc, ◌+◌, ◌<◌, ◌≤◌, Bool, true, false, List, [], ◌∷◌, refl, sym, ap, inl, inr, arith, ◌∙◌, length, take, min, length-take, get_or}
use Rattle.std.specs.Prelude.{IsTrue, nat_lt, filter, if◌then◌else◌, ◌==◌}
use Rattle.std.specs.List.{AllByRecursion}
use Rattle.std.proofs.lemmas.Bool.Decides.{nat_tests}
use Rattle.metric_laws.specs.Space.{Space, IsSpace, bound}
use Rattle.metric_laws.specs.Lists.{IsIn}
use Rattle.metric_laws.proofs.Published.{in-filter, filter-in, in-map, map-in, all_in}
use Rattle.scan_model.specs.declared.hit.Hit.{Hit}
use Rattle.scan_model.specs.declared.query.Query.{Query}
use Rattle.scan_model.specs.declared.query.Query.TheVariants.{Range, Nearest}
use Rattle.scan_model.specs.Scan.{range_hits, nearest_hits, is_within}
use Rattle.scan_model.specs.Laws.{IsRangeAnswer}
use Rattle.scan_model.proofs.Published.{range_answers}
use Rattle.tree_shape.specs.declared.entry.LeafEntry.{LeafEntry}
use Rattle.tree_shape.specs.Tree.{times, point_of, points_from}
use Rattle.tree_shape.proofs.Published.{ids_of, times-in, object_of, point_of-in}
use Rattle.log_model.specs.Grammar.{query_point}
use Rattle.log_model.specs.InOrder.{in_order, hit_before}
use Rattle.log_model.specs.Walk.{Search, search_at, away, hit_of}
use Rattle.log_model.specs.Sound.{last_dist, pruning_radius, selected, search_for}
use Rattle.log_model.specs.Laws.{scan_answers}
use Rattle.log_model.proofs.Order.{rising_same, rising-in_order, rising-filter, in-in_order, in_order-keeps}
use Rattle.log_model.proofs.Orders.{hit_order, rising_hits}
use Rattle.log_model.proofs.Hits.{Rising, AllWithin, take-near, take_near, whole_near, all_take, ascends_take, last_bounded, last_covers}
use Rattle.log_model.proofs.Pruned.{is_answer}
use Rattle.log_model.proofs.Walk.{answers_in}

-- the ids of these objects are those below the count, each once
abbrev pub AreIds : List LeafEntry → ℕ → Type 0
AreIds es count = (id : ℕ) → times id (ids_of es) ≡ (if nat_lt id count then 1 else 0)

pub length-points : (es : List LeafEntry) (i n : ℕ) → length (points_from es i n) ≡ n
length-points es i zero = refl
length-points es i (suc n) = ap suc (length-points es (i + 1) n)

pub point_at : (es : List LeafEntry) (i n k : ℕ) → k < n → get_or (points_from es i n) k [] ≡ point_of (i + k) es
point_at es i zero k low = absurd (omega arith)
point_at es i (suc n) zero low = ap (λ j. point_of j es) (let e : i ≡ i + 0 = omega arith in e)
point_at es i (suc n) (suc k) low = point_at es (i + 1) n k (omega arith) ∙ ap (λ j. point_of j es) (let e : (i + 1) + k ≡ i + suc k = omega arith in e)

-- an object of a tree by its id
module _ (es : List LeafEntry) (count : ℕ) (ids : AreIds es count) where
  abbrev pub points : List (List ℕ)
  points = points_from es 0 count

  pub id_below : (e : LeafEntry) → IsIn e es → (e.id < count) × (get_or points e.id [] ≡ e.point)
  id_below e k = (below, point_at es 0 count e.id below ∙ ap (λ j. point_of j es) zero_more ∙ point_of-in es e k once)
    where
      below : e.id < count
      below = let h = ids e.id in let one = times-in es e k in grind (arith, nat_tests)

      zero_more : 0 + e.id ≡ e.id
      zero_more = omega arith

      once : times e.id (ids_of es) ≤ 1
      once = let h = ids e.id in grind (arith, nat_tests)

  pub at_id : (id : ℕ) → id < count → (e : LeafEntry) × IsIn e es × (e.id ≡ id) × (get_or points id [] ≡ e.point)
  at_id id low =
      let here = object_of es id (let k = ids id in let b : 1 ≤ times id (ids_of es) = grind (arith, nat_tests) in b) in
      (here.0, here.1, here.2, (let there = (id_below here.0 here.1).1 in rw here.2 at there))

  module _ (s : Space) (axioms : IsSpace s) (fit : AllByRecursion (λ e. IsTrue (s.is_point e.point)) es) (q : List ℕ) (q_fits : IsTrue (s.is_point q)) where
    -- the answers among the objects, in order, are the scan's within the radius
    module _ (rho r : ℕ) (is : rho ≡ min r bound) where
      abbrev pub f : Search
      f = search_at s q rho

      abbrev pub named : List Hit
      named = answers_in f es

      onward : (z : Hit) → IsIn z named → IsRangeAnswer s points q r z
      onward z k =
          let from = in-map (hit_of f) (filter (is_answer f) es) z k in
          let kept = in-filter (is_answer f) es from.0 from.1 in
          let there = id_below from.0 kept.0 in
          let near : away f from.0.point ≤ r = (let t = kept.1 in grind (arith, nat_tests)) in
          let answer : IsRangeAnswer s points q r (hit_of f from.0) = record {
            object = rw (length-points es 0 count) there.0;
            dist = ap (λ p. s.dist p q) (sym there.1);
            within = near;
          } in
          rw from.2 answer

      back : (z : Hit) → IsRangeAnswer s points q r z → IsIn z named
      back z answer =
          let low : z.id < count = (let o = answer.object in rw (length-points es 0 count) at o) in
          let here = at_id z.id low in
          let dist : z.dist ≡ s.dist here.0.point q = answer.dist ∙ ap (λ p. s.dist p q) here.3 in
          let top = axioms.bounded here.0.point q (all_in (λ e. IsTrue (s.is_point e.point)) es here.0 fit here.1) q_fits in
          let near : is_answer f here.0 ≡ true = (let w = answer.within in grind (arith, nat_tests)) in
          let same : z ≡ hit_of f here.0 = (λ i. record { id = sym here.2 i; dist = dist i }) in
          rw same (map-in (hit_of f) (filter (is_answer f) es) here.0 (filter-in (is_answer f) es here.0 here.1 near))

      pub named_range : in_order hit_before named ≡ range_hits s points q r
      named_range =
          rising_same hit_before hit_order (in_order hit_before named) (range_hits s points q r) (rising-in_order hit_before hit_order named)
          (rising_hits (range_hits s points q r) (range_answers s points q r).0)
          (λ z k. ((range_answers s points q r).1 z).1 (onward z (in-in_order hit_before hit_order named z k)))
          (λ z k. in_order-keeps hit_before hit_order named z (back z (((range_answers s points q r).1 z).0 k)))

    abbrev pub all : List Hit
    all = range_hits s points q bound

    -- the scan's hits within a lesser radius
    pub range_near : (rho : ℕ) → rho ≤ bound → range_hits s points q rho ≡ filter (is_within rho) (range_hits s points q bound)
    range_near rho low =
        rising_same hit_before hit_order (range_hits s points q rho) (filter (is_within rho) all)
        (rising_hits (range_hits s points q rho) (range_answers s points q rho).0)
        (rising-filter hit_before hit_order (is_within rho) all (rising_hits all (range_answers s points q bound).0))
        (λ z k. let a = ((range_answers s points q rho).1 z).0 k in
        filter-in (is_within rho) all z (((range_answers s points q bound).1 z).1 (wider z a)) (near z a.within))
        (λ z k. let w = in-filter (is_within rho) all z k in
        ((range_answers s points q rho).1 z).1 (nearer z (((range_answers s points q bound).1 z).0 w.0) w.1))
      where
        wider : (z : Hit) → IsRangeAnswer s points q rho z → IsRangeAnswer s points q bound z
        wider z a = record { object = a.object; dist = a.dist; within = (let w = a.within in omega arith) }

        near : (z : Hit) → z.dist ≤ rho → is_within rho z ≡ true
        near z w = grind (arith, nat_tests)

        nearer : (z : Hit) → IsRangeAnswer s points q bound z → is_within rho z ≡ true → IsRangeAnswer s points q rho z
        nearer z a w = record { object = a.object; dist = a.dist; within = (let t : z.dist ≤ rho = grind (arith, nat_tests) in t) }

    pub named_near : (rho : ℕ) → rho ≤ bound → in_order hit_before (answers_in (search_at s q rho) es) ≡ filter (is_within rho) (range_hits s points q bound)
    named_near rho low = named_range rho rho (omega arith) ∙ range_near rho low

    -- none of the scan's hits is beyond the bound
    pub scan_bounded : AllWithin bound (range_hits s points q bound)
    scan_bounded = each (range_hits s points q bound) (λ z k. (((range_answers s points q bound).1 z).0 k).within)
      where
        each : (hs : List Hit) → ((z : Hit) → IsIn z hs → z.dist ≤ bound) → AllWithin bound hs
        each [] h = tt
        each (x ∷ xs) h = (h x (inl refl), each xs (λ z k. h z (inr k)))

    pub scan_rises : Rising (range_hits s points q bound)
    scan_rises = rising_hits (range_hits s points q bound) (range_answers s points q bound).0

    pub short_list : (k rho : ℕ) (answers : List Hit) → rho ≤ bound → length answers ≡ k → answers ≡ take k (in_order hit_before (answers_in (search_at s q rho) es)) →
        answers ≡ nearest_hits s points q k
    short_list k rho answers low full is =
        let near : answers ≡ take k (filter (is_within rho) (range_hits s points q bound)) = is ∙ ap (take k) (named_near rho low) in
        let long : k ≤ length (filter (is_within rho) (range_hits s points q bound)) =
        (let e = ap length near in omega (arith, length-take k (filter (is_within rho) (range_hits s points q bound)))) in
        near ∙ take-near rho k (range_hits s points q bound) scan_rises long

    pub whole_list : (k : ℕ) → take k (in_order hit_before (answers_in (search_at s q bound) es)) ≡ nearest_hits s points q k
    whole_list k = ap (take k) (named_near bound (omega arith) ∙ whole_near bound (range_hits s points q bound) scan_bounded)

    -- a walk at the radius of the scan's own first k names them
    pub own_radius : (k : ℕ) → nearest_hits s points q k ≡ take k (in_order hit_before (answers_in (search_at s q (pruning_radius (Nearest q k) (nearest_hits s points q k))) es))
    own_radius k = cases (length (nearest_hits s points q k) == k) refl
      where
        cases : (b : Bool) → (length (nearest_hits s points q k) == k) ≡ b →
            nearest_hits s points q k ≡ take k (in_order hit_before (answers_in (search_at s q (if b then last_dist (nearest_hits s points q k) else bound)) es))
        cases false less = sym (whole_list k)
        cases true full =
            sym (ap (take k) (named_near (last_dist (nearest_hits s points q k)) (last_bounded (nearest_hits s points q k)))
            ∙ take_near (last_dist (nearest_hits s points q k)) k (range_hits s points q bound)
            (last_covers (nearest_hits s points q k) (ascends_take (λ a b. IsTrue (hit_before a b)) k (range_hits s points q bound) scan_rises) (all_take (λ h. h.dist ≤ bound) k (range_hits s points q bound) scan_bounded)))

-- what a walk names makes the scan's answers
pub complete : (s : Space) → IsSpace s → (es : List LeafEntry) (count : ℕ) → AreIds es count → AllByRecursion (λ e. IsTrue (s.is_point e.point)) es →
    (query : Query) (answers hits : List Hit) → IsTrue (s.is_point (query_point query)) → hits ≡ answers_in (search_for s query answers) es →
    answers ≡ selected query hits → answers ≡ scan_answers s query (points_from es 0 count)
complete s axioms es count ids fit (Range q r) answers hits q_fits walk is =
    is ∙ ap (in_order hit_before) walk ∙ named_range es count ids s axioms fit q q_fits (min r bound) r refl
complete s axioms es count ids fit (Nearest q k) answers hits q_fits walk is = cases (length answers == k) refl walk
  where
    cases : (b : Bool) → (length answers == k) ≡ b → hits ≡ answers_in (search_at s q (if b then last_dist answers else bound)) es →
        answers ≡ nearest_hits s (points_from es 0 count) q k
    cases true full walk =
        short_list es count ids s axioms fit q q_fits k (last_dist answers) answers (last_bounded answers) (let e : length answers ≡ k = grind (arith, nat_tests) in e)
        (is ∙ ap (λ hs. take k (in_order hit_before hs)) walk)
    cases false less walk = is ∙ ap (λ hs. take k (in_order hit_before hs)) walk ∙ whole_list es count ids s axioms fit q q_fits k

-- the scan's answers are those that a walk makes which they themselves prune
pub scan_selected : (s : Space) → IsSpace s → (es : List LeafEntry) (count : ℕ) → AreIds es count → AllByRecursion (λ e. IsTrue (s.is_point e.point)) es →
    (query : Query) → IsTrue (s.is_point (query_point query)) →
    scan_answers s query (points_from es 0 count) ≡ selected query (answers_in (search_for s query (scan_answers s query (points_from es 0 count))) es)
scan_selected s axioms es count ids fit (Range q r) q_fits = sym (named_range es count ids s axioms fit q q_fits (min r bound) r refl)
scan_selected s axioms es count ids fit (Nearest q k) q_fits = own_radius es count ids s axioms fit q q_fits k
