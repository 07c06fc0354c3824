use Rattle.std.proofs.Common.{◌≡◌, ◌∙◌, ◌+◌, ◌++◌, ◌≤◌, ◌<◌, ℕ, List, Option, true, false, ap, sym, refl, subst, arith, min, drop, get_or, length}
use Rattle.std.specs.BinaryHeap.{heap_items}
use Rattle.metric_laws.specs.Space.{Space}
use Rattle.tree_shape.specs.declared.entry.LeafEntry.{LeafEntry}
use Rattle.tree_shape.specs.Entries.{leaf_of}
use Rattle.log_model.specs.Walk.{Search, search_at, away, is_skipped}
use Rattle.nearest_search.specs.declared.kth.Best.{Best}
use Rattle.nearest_search.specs.declared.seen.Sight.{Sight}
use Rattle.nearest_search.specs.Counts.{one_within, within}
use Rattle.nearest_search.specs.Opened.{leaf_dists}
use Rattle.nearest_search.specs.Seeing.{object_sight, objects_seen}
use Rattle.nearest_search.proofs.Waits.{noted_next}
use Rattle.nearest_search.proofs.Seeing.{objects_passed, dists_passed, object_seen, object_near, object_far}
use Rattle.nearest_search.proofs.opening.note_leaf.Goals as goal
use Rattle.nearest_search.proofs.opening.note_leaf.Goals.{then-dist-probe+in_ok-keep, else-dist-probe}

-- what is known of the objects that are seen holds of the leaf's
ruled_out : (f : Search) (above : Option ℕ) (from to : ℕ) (seen es : List LeafEntry) → seen ≡ es → ((k : ℕ) (e : LeafEntry) → from ≤ k → k < to → is_skipped f above (get_or seen k e).parent 0 ≡ true) →
    (k : ℕ) (e : LeafEntry) → from ≤ k → k < to → is_skipped f above (get_or es k e).parent 0 ≡ true
ruled_out f above from to seen es same = subst (λ (l : List LeafEntry). (k : ℕ) (e : LeafEntry) → from ≤ k → k < to → is_skipped f above (get_or l k e).parent 0 ≡ true) same

left_over : (f : Search) (above : Option ℕ) (at : ℕ) (seen es : List LeafEntry) → seen ≡ es → ((e : LeafEntry) → at < length seen → is_skipped f above (get_or seen at e).parent 0 ≡ false) →
    (e : LeafEntry) → at < length es → is_skipped f above (get_or es at e).parent 0 ≡ false
left_over f above at seen es same = subst (λ (l : List LeafEntry). (e : LeafEntry) → at < length l → is_skipped f above (get_or l at e).parent 0 ≡ false) same

pub loop-at-init : goal.loop-at-init
loop-at-init g c =
    let f : Search = search_at (g.R.M.Metric.space (g.R.Ruler.metric c.args.ruler.now)) c.args.probe.q.now c.args.probe.rho in
    let es = c.args.entries.now in
    let seen = c.seen-objects in
    let next = c.next_object-at in
    let high : next.result ≤ length es = omega (arith, next.ensures.high, ap length seen.ensures) in
    let out = ruled_out f c.args.above 0 next.result seen.result es seen.ensures next.ensures.ruled_out in
    record {
      low = high;
      metric = refl;
      used = omega arith;
      count = refl;
      next = left_over f c.args.above next.result seen.result es seen.ensures next.ensures.next;
      noted = λ r. ap (λ (ds : List ℕ). min c.args.best.now.k (within r (heap_items c.args.best.now.heap) + within r ds)) (sym (dists_passed f c.args.above es 0 next.result next.ensures.low high out));
      seen = objects_passed f c.args.above es 0 next.result next.ensures.low high out c.args.seen.now.items (c.args.seen.now.items ++ objects_seen f c.args.above 0 es) refl;
    }

pub loop-at-preserved : goal.loop-at-preserved
loop-at-preserved g c =
    let s : Space = g.R.M.Metric.space (g.R.Ruler.metric c.args.ruler.now) in
    let f : Search = search_at s c.args.probe.q.now c.args.probe.rho in
    let above = c.args.above in
    let es = c.args.entries.now in
    let at = c.loop-at.at in
    let seen = c.seen-objects in
    let next = c.next_object-at-in-loop-at in
    let so_far = c.loop-at.invariant in
    let k = c.args.best.now.k in
    let e : LeafEntry = leaf_of c.at-entry.result in
    let d = c.dist-dist.result in
    let low : at < length es = omega (arith, c.loop-at-test.true, c.len.ensures, ap length seen.ensures) in
    let is : e ≡ get_or es at e = c.at-entry.ensures ∙ ap (λ (l : List LeafEntry). get_or l at e) seen.ensures in
    let left : is_skipped f above e.parent 0 ≡ false = ap (λ (o : LeafEntry). is_skipped f above o.parent 0) is ∙ so_far.next e low in
    let dist : d ≡ away f e.point = cc (c.dist-dist.ensures.value, so_far.metric) in
    let sight : ◌≡◌ {A = Sight} (record { place = at; name = e.id; skip = c.skip_of-skip.result; far = d; dist = d; tag = e.tag }) (object_sight f above at e) =
    λ i. record { place = at; name = e.id; skip = c.skip_of-skip.ensures i; far = dist i; dist = dist i; tag = e.tag } in
    let high : next.result ≤ length es = omega (arith, next.ensures.high, ap length seen.ensures) in
    let out = ruled_out f above (at + 1) next.result seen.result es seen.ensures next.ensures.ruled_out in
    let rest : ℕ → ℕ = λ r. within r (leaf_dists f above (drop (at + 1) es)) in
    let all : ℕ → ℕ = λ r. min k (within r (heap_items c.args.best.now.heap) + within r (leaf_dists f above es)) in
    let old : ℕ → ℕ = λ r. within r (heap_items c.loop-at.best.heap) in
    let kept : (c.if-dist-probe.best.k ≡ k) × ((r : ℕ) → min k (within r (heap_items c.if-dist-probe.best.heap) + rest r) ≡ all r) =
    elim c.if-dist-probe.branch [
      | then-dist-probe+in_ok-keep w ↦
          (
          let dists = object_near f above es at e low is left d dist w.if-dist-probe.true in
          subst (λ (b : Best). (b.k ≡ k) × ((r : ℕ) → min k (within r (heap_items b.heap) + rest r) ≡ all r)) (sym w.best-is) (
            w.keep.ensures.count ∙ so_far.count,
            λ r. noted_next k (old r) (within r (heap_items w.keep.new.self.heap)) (one_within r d) (rest r) (all r)
                (subst (λ (n : ℕ). min n (within r (heap_items w.keep.new.self.heap)) ≡ min n (one_within r d + old r)) so_far.count (w.in_ok-keep.ensures.counts r))
                (subst (λ (ds : List ℕ). min k (old r + within r ds) ≡ all r) dists (so_far.noted r)),
          )
          )
      | else-dist-probe w ↦
          (
          let dists = object_far f above es at e low is left d dist w.if-dist-probe.false in
          subst (λ (b : Best). (b.k ≡ k) × ((r : ℕ) → min k (within r (heap_items b.heap) + rest r) ≡ all r)) (sym w.best-is)
          (so_far.count, λ r. subst (λ (ds : List ℕ). min k (old r + within r ds) ≡ all r) dists (so_far.noted r))
          )
    ] in
    record {
      low = high;
      metric = c.dist-dist.ensures.same ∙ so_far.metric;
      used = omega (arith, c.dist-dist.ensures.counted, so_far.used, next.ensures.low);
      count = kept.0;
      next = left_over f above next.result seen.result es seen.ensures next.ensures.next;
      noted = λ r. subst (λ (ds : List ℕ). min k (within r (heap_items c.if-dist-probe.best.heap) + within r ds) ≡ all r) (dists_passed f above es (at + 1) next.result next.ensures.low high out) (kept.1 r);
      seen = objects_passed f above es (at + 1) next.result next.ensures.low high out c.push.new.self.items (c.args.seen.now.items ++ objects_seen f above 0 es)
          (object_seen f above es at e low is left c.loop-at.seen.items c.push.new.self.items (c.args.seen.now.items ++ objects_seen f above 0 es) (record { place = at; name = e.id; skip = c.skip_of-skip.result; far = d; dist = d; tag = e.tag }) sight
          c.in_ok-push.ensures.items so_far.seen);
    }
