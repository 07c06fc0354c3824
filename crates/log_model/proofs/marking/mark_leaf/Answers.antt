use Rattle.std.proofs.Common.{◌≡◌, ◌∙◌, ◌++◌, ◌≤◌, ◌<◌, ◌+◌, [], ◌∷◌, ℕ, List, Option, true, false, ap, refl, subst, arith, get_or, length}
use Rattle.std.specs.Prelude.{replicate}
use Rattle.tree_shape.specs.declared.entry.LeafEntry.{LeafEntry}
use Rattle.tree_shape.specs.Entries.{leaf_of}
use Rattle.log_model.specs.declared.marks.Mark.TheVariants.{Skip}
use Rattle.log_model.specs.declared.tagged.TaggedHit.{TaggedHit}
use Rattle.log_model.specs.Walk.{Search, search_at, away, is_skipped, least_for_object}
use Rattle.log_model.specs.Met.{tagged_of}
use Rattle.log_model.proofs.Marked.{IsMarkedTo, AreSkipped, length-made, begun, skipped, far_next, near_next, all_marked, object_skipped, object_far, object_near}
use Rattle.log_model.proofs.marking.mark_leaf.Goals as goal
use Rattle.log_model.proofs.marking.mark_leaf.Goals.{then-centre_test, else-centre_test+in_ok-push}

-- the objects that the parent test rules out are marked Skip
ruled_out : (f : Search) (above : Option ℕ) (from to : ℕ) (seen es : List LeafEntry) → seen ≡ es → ((k : ℕ) (e : LeafEntry) → from ≤ k → k < to → is_skipped f above (get_or seen k e).parent 0 ≡ true) →
    AreSkipped (least_for_object f above) from to es
ruled_out f above from to seen es same out = subst (AreSkipped (least_for_object f above) from to) same (λ k e low high. object_skipped f above (get_or seen k e) (out k e low high))

unskipped : (f : Search) (above : Option ℕ) (at : ℕ) (seen es : List LeafEntry) → seen ≡ es → ((e : LeafEntry) → at < length seen → is_skipped f above (get_or seen at e).parent 0 ≡ false) →
    (e : LeafEntry) → at < length es → is_skipped f above (get_or es at e).parent 0 ≡ false
unskipped f above at seen es same = subst (λ (l : List LeafEntry). (e : LeafEntry) → at < length l → is_skipped f above (get_or l at e).parent 0 ≡ false) same

pub loop-at-init : goal.loop-at-init
loop-at-init g c =
    let f : Search = search_at (g.R.M.Metric.space (g.R.Ruler.metric c.args.ruler.now)) c.args.probe.q.now c.args.probe.rho in
    let es = c.args.entries.now in
    let seen = c.seen-objects in
    let next = c.next_object-at in
    let used = g.R.Ruler.used c.args.ruler.now in
    let tagged = c.args.tagged.now.items in
    let none : c.in_ok-marks.marks ≡ replicate (length es) Skip = c.in_ok-marks.ensures ∙ ap (λ (n : ℕ). replicate n Skip) (cc (c.len.ensures, seen.ensures)) in
    record {
      metric = refl;
      next = unskipped f c.args.above next.result seen.result es seen.ensures next.ensures.next;
      marked = skipped (least_for_object f c.args.above) (tagged_of f.space f.point) es 0 next.result c.in_ok-marks.marks used used tagged tagged next.ensures.low
          (ruled_out f c.args.above 0 next.result seen.result es seen.ensures next.ensures.ruled_out)
          (rw none (begun (least_for_object f c.args.above) (tagged_of f.space f.point) es used tagged));
    }

pub set-requires : goal.set-requires
set-requires g c =
    let f : Search = search_at (g.R.M.Metric.space (g.R.Ruler.metric c.args.ruler.now)) c.args.probe.q.now c.args.probe.rho in
    omega (arith, length-made (least_for_object f c.args.above) (tagged_of f.space f.point) c.args.entries.now c.loop-at.at c.loop-at.marks (g.R.Ruler.used c.args.ruler.now) (g.R.Ruler.used c.loop-at.ruler) c.args.tagged.now.items c.loop-at.tagged.items c.loop-at.invariant.marked, c.loop-at-test.true, c.len-in-loop-at.ensures, ap length c.seen-objects.ensures)

pub set-requires-else-centre_test : goal.set-requires-else-centre_test
set-requires-else-centre_test g c =
    let f : Search = search_at (g.R.M.Metric.space (g.R.Ruler.metric c.args.ruler.now)) c.args.probe.q.now c.args.probe.rho in
    omega (arith, length-made (least_for_object f c.args.above) (tagged_of f.space f.point) c.args.entries.now c.loop-at.at c.loop-at.marks (g.R.Ruler.used c.args.ruler.now) (g.R.Ruler.used c.loop-at.ruler) c.args.tagged.now.items c.loop-at.tagged.items c.loop-at.invariant.marked, c.loop-at-test.true, c.len-in-loop-at.ensures, ap length c.seen-objects.ensures)

pub loop-at-preserved : goal.loop-at-preserved
loop-at-preserved g c =
    let f : Search = search_at (g.R.M.Metric.space (g.R.Ruler.metric c.args.ruler.now)) c.args.probe.q.now c.args.probe.rho in
    let es = c.args.entries.now in
    let at = c.loop-at.at in
    let seen = c.seen-objects in
    let next = c.next_object-at-in-loop-at in
    let e : LeafEntry = leaf_of c.at-entry.result in
    let used = g.R.Ruler.used c.args.ruler.now in
    let used2 = g.R.Ruler.used c.loop-at.ruler in
    let used3 = g.R.Ruler.used c.dist-dist.new.self in
    let tagged = c.args.tagged.now.items in
    let tagged2 = c.loop-at.tagged.items in
    let so_far = c.loop-at.invariant in
    let low : at < length es = omega (arith, c.loop-at-test.true, c.len-in-loop-at.ensures, ap length seen.ensures) in
    let is : e ≡ get_or es at e = c.at-entry.ensures ∙ ap (λ (l : List LeafEntry). get_or l at e) seen.ensures in
    let left : is_skipped f c.args.above e.parent 0 ≡ false = ap (λ (d : LeafEntry). is_skipped f c.args.above d.parent 0) is ∙ so_far.next e low in
    let dist : c.dist-dist.result ≡ away f e.point = cc (c.dist-dist.ensures.value, so_far.metric) in
    let one : ◌≡◌ {A = TaggedHit} (record { hit = record { id = e.id; dist = c.dist-dist.result }; tag = e.tag }) (tagged_of f.space f.point e) =
    ap (λ (d : ℕ). record { hit = record { id = e.id; dist = d }; tag = e.tag }) dist in
    let here : IsMarkedTo (least_for_object f c.args.above) (tagged_of f.space f.point) es (at + 1) c.if-centre_test.marks used used3 tagged c.if-centre_test.tagged.items =
    elim c.if-centre_test.branch [
      | then-centre_test w ↦
          (
          rw (w.marks-is, w.set.ensures, w.tagged-is)
          (far_next (least_for_object f c.args.above) (tagged_of f.space f.point) es at e low is c.loop-at.marks used used2 used3 tagged tagged2
          (object_far f c.args.above e left (cc (c.centre_test.ensures, w.if-centre_test.true, dist))) c.dist-dist.ensures.counted so_far.marked)
          )
      | else-centre_test+in_ok-push w ↦
          (
          rw (w.marks-is, w.set-else-centre_test.ensures, w.tagged-is)
          (near_next (least_for_object f c.args.above) (tagged_of f.space f.point) es at e low is c.loop-at.marks used used2 used3 tagged tagged2 w.push.new.self.items
          (object_near f c.args.above e left (cc (c.centre_test.ensures, w.if-centre_test.false, dist))) c.dist-dist.ensures.counted
          (w.in_ok-push.ensures.items ∙ ap (λ (t : TaggedHit). tagged2 ++ t ∷ []) one) so_far.marked)
          )
    ] in
    record {
      metric = c.dist-dist.ensures.same ∙ so_far.metric;
      next = unskipped f c.args.above next.result seen.result es seen.ensures next.ensures.next;
      marked = skipped (least_for_object f c.args.above) (tagged_of f.space f.point) es (at + 1) next.result c.if-centre_test.marks used used3 tagged c.if-centre_test.tagged.items next.ensures.low
          (ruled_out f c.args.above (at + 1) next.result seen.result es seen.ensures next.ensures.ruled_out) here;
    }

pub returns-clause-marks : goal.returns-clause-marks
returns-clause-marks g c =
    let f : Search = search_at (g.R.M.Metric.space (g.R.Ruler.metric c.args.ruler.now)) c.args.probe.q.now c.args.probe.rho in
    (all_marked (least_for_object f c.args.above) (tagged_of f.space f.point) c.args.entries.now c.loop-at.at c.loop-at.marks (g.R.Ruler.used c.args.ruler.now) (g.R.Ruler.used c.loop-at.ruler) c.args.tagged.now.items c.loop-at.tagged.items
    (omega (arith, c.loop-at-test.false, c.len-in-loop-at.ensures, ap length c.seen-objects.ensures)) c.loop-at.invariant.marked).0
