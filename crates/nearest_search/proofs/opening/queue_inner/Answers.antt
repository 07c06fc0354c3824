use Rattle.std.proofs.Common.{◌≡◌, ◌∙◌, ◌+◌, ◌-◌, ◌++◌, ◌∷◌, ◌≤◌, ◌<◌, ℕ, List, Option, Some, true, false, ap, sym, refl, subst, arith, drop, get_or, length}
use Rattle.std.specs.Prelude.{IsPermutation}
use Rattle.std.proofs.lemmas.List.Sorted.{IsPermutation-refl}
use Rattle.metric_laws.specs.Space.{Space}
use Rattle.tree_shape.specs.declared.entry.InnerEntry.{InnerEntry}
use Rattle.tree_shape.specs.Entries.{inner_of}
use Rattle.log_model.specs.Walk.{Search, search_at, away, is_skipped}
use Rattle.nearest_search.specs.declared.pending.Pending.{Pending}
use Rattle.nearest_search.specs.declared.seen.Sight.{Sight}
use Rattle.nearest_search.specs.Machine.{pending_of}
use Rattle.nearest_search.specs.Opened.{inner_pendings}
use Rattle.nearest_search.specs.Seeing.{subtree_sight, subtrees_seen}
use Rattle.nearest_search.proofs.Waits.{moved_one}
use Rattle.nearest_search.proofs.Seeing.{subtrees_passed, pendings_passed, subtree_seen, subtree_near, subtree_far}
use Rattle.nearest_search.proofs.opening.queue_inner.Goals as goal
use Rattle.nearest_search.proofs.opening.queue_inner.Goals.{then-far-probe+in_ok-add, else-far-probe}

-- what is known of the subtrees that are seen holds of the node's
ruled_out : (f : Search) (above : Option ℕ) (from to : ℕ) (seen es : List InnerEntry) → seen ≡ es →
    ((k : ℕ) (e : InnerEntry) → from ≤ k → k < to → is_skipped f above (get_or seen k e).parent (get_or seen k e).radius ≡ true) →
    (k : ℕ) (e : InnerEntry) → from ≤ k → k < to → is_skipped f above (get_or es k e).parent (get_or es k e).radius ≡ true
ruled_out f above from to seen es same =
    subst (λ (l : List InnerEntry). (k : ℕ) (e : InnerEntry) → from ≤ k → k < to → is_skipped f above (get_or l k e).parent (get_or l k e).radius ≡ true) same

left_over : (f : Search) (above : Option ℕ) (at : ℕ) (seen es : List InnerEntry) → seen ≡ es →
    ((e : InnerEntry) → at < length seen → is_skipped f above (get_or seen at e).parent (get_or seen at e).radius ≡ false) →
    (e : InnerEntry) → at < length es → is_skipped f above (get_or es at e).parent (get_or es at e).radius ≡ false
left_over f above at seen es same = subst (λ (l : List InnerEntry). (e : InnerEntry) → at < length l → is_skipped f above (get_or l at e).parent (get_or l at e).radius ≡ false) same

pub loop-at-init : goal.loop-at-init
loop-at-init g c =
    let f : Search = search_at (g.R.M.Metric.space (g.R.Ruler.metric c.args.ruler.now)) c.args.probe.q.now c.args.probe.rho in
    let es = c.args.entries.now in
    let seen = c.seen-subtrees in
    let next = c.next_subtree-at in
    let high : next.result ≤ length es = omega (arith, next.ensures.high, ap length seen.ensures) in
    let out = ruled_out f c.args.above 0 next.result seen.result es seen.ensures next.ensures.ruled_out in
    record {
      low = high;
      metric = refl;
      used = omega arith;
      next = left_over f c.args.above next.result seen.result es seen.ensures next.ensures.next;
      queued = subst (λ (ps : List Pending). IsPermutation (inner_pendings f c.args.above es ++ c.args.frontier.now) (ps ++ c.args.frontier.now))
          (pendings_passed f c.args.above es 0 next.result next.ensures.low high out) (IsPermutation-refl (inner_pendings f c.args.above es ++ c.args.frontier.now));
      seen = subtrees_passed f c.args.above es 0 next.result next.ensures.low high out c.args.seen.now.items (c.args.seen.now.items ++ subtrees_seen f c.args.above 0 es) refl;
    }

pub loop-at-preserved : goal.loop-at-preserved
loop-at-preserved g c =
    let s : Space = g.R.M.Metric.space (g.R.Ruler.metric c.args.ruler.now) in
    let f : Search = search_at s c.args.probe.q.now c.args.probe.rho in
    let above = c.args.above in
    let es = c.args.entries.now in
    let at = c.loop-at.at in
    let seen = c.seen-subtrees in
    let next = c.next_subtree-at-in-loop-at in
    let so_far = c.loop-at.invariant in
    let e : InnerEntry = inner_of c.at-entry.result in
    let d = c.dist-dist.result in
    let far = c.saturating_sub-far.result in
    let low : at < length es = omega (arith, c.loop-at-test.true, c.len.ensures, ap length seen.ensures) in
    let is : e ≡ get_or es at e = c.at-entry.ensures ∙ ap (λ (l : List InnerEntry). get_or l at e) seen.ensures in
    let left : is_skipped f above e.parent e.radius ≡ false = ap (λ (o : InnerEntry). is_skipped f above o.parent o.radius) is ∙ so_far.next e low in
    let dist : d ≡ away f e.point = cc (c.dist-dist.ensures.value, so_far.metric) in
    let far_is : far ≡ away f e.point - e.radius = c.saturating_sub-far.ensures ∙ ap (λ (n : ℕ). n - e.radius) dist in
    let sight : ◌≡◌ {A = Sight} (record { place = at; name = e.child; skip = c.skip_of-skip.result; far = far; dist = d; tag = 0 }) (subtree_sight f above at e) =
    λ i. record { place = at; name = e.child; skip = c.skip_of-skip.ensures i; far = far_is i; dist = dist i; tag = 0 } in
    let high : next.result ≤ length es = omega (arith, next.ensures.high, ap length seen.ensures) in
    let out = ruled_out f above (at + 1) next.result seen.result es seen.ensures next.ensures.ruled_out in
    let all : List Pending = inner_pendings f above es ++ c.args.frontier.now in
    let rest : List Pending = inner_pendings f above (drop (at + 1) es) in
    let queued : IsPermutation all (rest ++ c.if-far-probe.frontier) =
    elim c.if-far-probe.branch [
      | then-far-probe+in_ok-add w ↦
          (
          let here = subtree_near f above es at e low is left far far_is w.if-far-probe.true in
          let one : ◌≡◌ {A = Pending} (record { low = far; page = e.child; above = Some d }) (pending_of f e) = λ i. record { low = far_is i; page = e.child; above = Some (dist i) } in
          subst (λ (fr : List Pending). IsPermutation all (rest ++ fr)) (sym w.frontier-is)
          (moved_one all rest c.loop-at.frontier w.add.new.self (pending_of f e)
          (subst (λ (ps : List Pending). IsPermutation all (ps ++ c.loop-at.frontier)) here so_far.queued)
          (subst (λ (y : Pending). IsPermutation (y ∷ c.loop-at.frontier) w.add.new.self) one w.in_ok-add.ensures))
          )
      | else-far-probe w ↦
          (
          let here = subtree_far f above es at e low is left far far_is w.if-far-probe.false in
          subst (λ (fr : List Pending). IsPermutation all (rest ++ fr)) (sym w.frontier-is)
          (subst (λ (ps : List Pending). IsPermutation all (ps ++ c.loop-at.frontier)) here so_far.queued)
          )
    ] in
    record {
      low = high;
      metric = c.dist-dist.ensures.same ∙ so_far.metric;
      used = omega (arith, c.dist-dist.ensures.counted, so_far.used, next.ensures.low);
      next = left_over f above next.result seen.result es seen.ensures next.ensures.next;
      queued = subst (λ (ps : List Pending). IsPermutation all (ps ++ c.if-far-probe.frontier)) (pendings_passed f above es (at + 1) next.result next.ensures.low high out) queued;
      seen = subtrees_passed f above es (at + 1) next.result next.ensures.low high out c.push.new.self.items (c.args.seen.now.items ++ subtrees_seen f above 0 es)
          (subtree_seen f above es at e low is left c.loop-at.seen.items c.push.new.self.items (c.args.seen.now.items ++ subtrees_seen f above 0 es) (record { place = at; name = e.child; skip = c.skip_of-skip.result; far = far; dist = d; tag = 0 }) sight
          c.in_ok-push.ensures.items so_far.seen);
    }
