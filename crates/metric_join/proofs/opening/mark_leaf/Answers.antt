use Rattle.std.proofs.Common.{◌≡◌, ◌∙◌, ◌++◌, ◌-◌, ◌≤◌, ◌<◌, ℕ, List, true, ap, subst, arith, get_or, length}
use Rattle.std.specs.Prelude.{replicate}
use Rattle.tree_shape.specs.declared.entry.LeafEntry.{LeafEntry}
use Rattle.tree_shape.specs.Entries.{leaf_of}
use Rattle.log_model.specs.declared.marks.Mark.TheVariants.{Skip}
use Rattle.log_model.specs.JoinWalk.{JoinSearch, object_entry, join_skips}
use Rattle.log_model.specs.JoinSteps.{search_within}
use Rattle.metric_join.proofs.Entries.{takes_next, takes_skipped, takes_all, counts_both, counts_skipped, long_skipped, long_next}
use Rattle.metric_join.proofs.opening.mark_leaf.Goals as goal

pub loop-at-preserved : goal.loop-at-preserved
loop-at-preserved g c =
    let j : JoinSearch = search_within (g.R.M.Metric.space (g.R.Ruler.metric c.args.ruler.now)) c.args.probe.now.rho in
    let h : JoinSearch = search_within (g.R.M.Metric.space (g.R.Ruler.metric c.loop-at.ruler)) c.args.probe.now.rho in
    let es = c.args.entries.now in
    let at = c.loop-at.at in
    let next = c.next_object-next.result in
    let start = c.args.opening.now in
    let old = c.loop-at.opening in
    let mid = c.skip_up_to.new.self in
    let new = c.measure_object.new.opening in
    let entry : LeafEntry = leaf_of c.at.result in
    let same : h ≡ j = ap (λ m. search_within (g.R.M.Metric.space m) c.args.probe.now.rho) c.loop-at.invariant.metric in
    let high : next ≤ length es = omega (arith, c.next_object-next.ensures.high, ap length c.seen-objects.ensures) in
    let skipped : mid.marks.items ≡ old.marks.items ++ replicate (next - at) Skip =
    c.in_ok-skip_up_to.ensures.marks ∙ ap (λ (k : ℕ). old.marks.items ++ replicate (next - k) Skip) c.loop-at.invariant.long in
    let out : (k : ℕ) (d : LeafEntry) → at ≤ k → k < next → join_skips c.args.probe.now.rho c.args.probe.now.need.now (object_entry (get_or es k d)) ≡ true =
    subst (λ (l : List LeafEntry). (k : ℕ) (d : LeafEntry) → at ≤ k → k < next → join_skips c.args.probe.now.rho c.args.probe.now.need.now (object_entry (get_or l k d)) ≡ true)
    c.seen-objects.ensures c.next_object-next.ensures.ruled_out in
    let here : entry ≡ get_or es next entry = c.at.ensures ∙ ap (λ (l : List LeafEntry). get_or l next entry) c.seen-objects.ensures in
    let u0 = g.R.Ruler.used c.args.ruler.now in
    let u1 = g.R.Ruler.used c.loop-at.ruler in
    record {
      metric = c.measure_object.ensures.metric ∙ c.loop-at.invariant.metric;
      long = omega (
        arith,
        long_next h c.args.probe.now.need.now (object_entry entry) mid new c.in_ok-measure_object.ensures.taken,
        long_skipped old.marks.items mid.marks.items next c.in_ok-skip_up_to.ensures.marks (omega (arith, c.loop-at.invariant.long, c.next_object-next.ensures.low)),
      );
      counted = counts_both u0 u1 (g.R.Ruler.used c.measure_object.new.ruler) start.marks.items mid.marks.items new.marks.items
          (counts_both u0 u1 u1 start.marks.items old.marks.items mid.marks.items c.loop-at.invariant.counted (counts_skipped u1 (next - at) old.marks.items mid.marks.items skipped))
          c.in_ok-measure_object.ensures.counted;
      taken = takes_next j h c.args.probe.now.need.now object_entry es next entry start mid new same (omega (arith, high, c.len-in-loop-at.ensures, ap length c.seen-objects.ensures)) here c.in_ok-measure_object.ensures.taken
          (takes_skipped j c.args.probe.now.need.now object_entry es at next start old mid c.next_object-next.ensures.low high out skipped c.skip_up_to.ensures.matches c.loop-at.invariant.taken);
    }

pub returns-then-next-len-clause-counted : goal.returns-then-next-len-clause-counted
returns-then-next-len-clause-counted g c =
    let u0 = g.R.Ruler.used c.args.ruler.now in
    let u1 = g.R.Ruler.used c.loop-at.ruler in
    let old = c.loop-at.opening in
    let mid = c.skip_up_to.new.self in
    counts_both u0 u1 u1 c.args.opening.now.marks.items old.marks.items mid.marks.items c.loop-at.invariant.counted
    (counts_skipped u1 (c.next_object-next.result - length old.marks.items) old.marks.items mid.marks.items c.in_ok-skip_up_to.ensures.marks)

pub returns-then-next-len-clause-taken : goal.returns-then-next-len-clause-taken
returns-then-next-len-clause-taken g c =
    let j : JoinSearch = search_within (g.R.M.Metric.space (g.R.Ruler.metric c.args.ruler.now)) c.args.probe.now.rho in
    let es = c.args.entries.now in
    let at = c.loop-at.at in
    let next = c.next_object-next.result in
    let start = c.args.opening.now in
    let old = c.loop-at.opening in
    let mid = c.skip_up_to.new.self in
    let high : next ≤ length es = omega (arith, c.next_object-next.ensures.high, ap length c.seen-objects.ensures) in
    let skipped : mid.marks.items ≡ old.marks.items ++ replicate (next - at) Skip =
    c.in_ok-skip_up_to.ensures.marks ∙ ap (λ (k : ℕ). old.marks.items ++ replicate (next - k) Skip) c.loop-at.invariant.long in
    let out : (k : ℕ) (d : LeafEntry) → at ≤ k → k < next → join_skips c.args.probe.now.rho c.args.probe.now.need.now (object_entry (get_or es k d)) ≡ true =
    subst (λ (l : List LeafEntry). (k : ℕ) (d : LeafEntry) → at ≤ k → k < next → join_skips c.args.probe.now.rho c.args.probe.now.need.now (object_entry (get_or l k d)) ≡ true)
    c.seen-objects.ensures c.next_object-next.ensures.ruled_out in
    rw c.requires.leaf
    (takes_all j c.args.probe.now.need.now object_entry es next start mid (omega (arith, c.if-next-len.true, c.len-in-loop-at.ensures, ap length c.seen-objects.ensures))
    (takes_skipped j c.args.probe.now.need.now object_entry es at next start old mid c.next_object-next.ensures.low high out skipped c.skip_up_to.ensures.matches c.loop-at.invariant.taken))

pub returns-clause-taken : goal.returns-clause-taken
returns-clause-taken g c =
    rw c.requires.leaf
    (takes_all (search_within (g.R.M.Metric.space (g.R.Ruler.metric c.args.ruler.now)) c.args.probe.now.rho) c.args.probe.now.need.now object_entry c.args.entries.now c.loop-at.at c.args.opening.now c.loop-at.opening
    (omega (arith, c.len.ensures, ap length c.seen-objects.ensures)) c.loop-at.invariant.taken)
