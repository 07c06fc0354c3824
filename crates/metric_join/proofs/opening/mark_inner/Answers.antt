use Rattle.std.proofs.Common.{◌≡◌, ◌∙◌, ◌++◌, ◌-◌, ◌≤◌, ◌<◌, ◌+◌, ℕ, List, true, ap, subst, arith, get_or, length}
use Rattle.std.specs.Prelude.{replicate}
use Rattle.tree_shape.specs.declared.entry.InnerEntry.{InnerEntry}
use Rattle.tree_shape.specs.declared.entry.Node.TheVariants.{Inner}
use Rattle.tree_shape.specs.Entries.{inner_of}
use Rattle.log_model.specs.declared.marks.Mark.TheVariants.{Skip}
use Rattle.log_model.specs.Items.{item_at, subtree_item}
use Rattle.log_model.specs.JoinWalk.{JoinSearch, far_stored, other, radius_of, subtree_entry}
use Rattle.log_model.specs.JoinSteps.{search_within}
use Rattle.log_model.proofs.Published.{subtree_at}
use Rattle.metric_join.proofs.Entries.{takes_next, takes_skipped, takes_all, counts_both, counts_skipped, long_skipped, long_next}
use Rattle.metric_join.proofs.opening.mark_inner.Goals as goal

pub loop-at-preserved : goal.loop-at-preserved
loop-at-preserved g c =
    let j : JoinSearch = search_within (g.R.M.Metric.space (g.R.Ruler.metric c.args.ruler.now)) c.args.probe.now.rho in
    let h : JoinSearch = search_within (g.R.M.Metric.space (g.R.Ruler.metric c.loop-at.ruler)) c.args.probe.now.rho in
    let es = c.args.entries.now in
    let at = c.loop-at.at in
    let next = c.next_subtree-next.result in
    let start = c.args.opening.now in
    let old = c.loop-at.opening in
    let mid = c.skip_up_to.new.self in
    let new = c.measure_subtree.new.opening in
    let entry : InnerEntry = inner_of c.at.result in
    let same : h ≡ j = ap (λ m. search_within (g.R.M.Metric.space m) c.args.probe.now.rho) c.loop-at.invariant.metric in
    let high : next ≤ length es = omega (arith, c.next_subtree-next.ensures.high, ap length c.seen-subtrees.ensures) in
    let skipped : mid.marks.items ≡ old.marks.items ++ replicate (next - at) Skip =
    c.in_ok-skip_up_to.ensures.marks ∙ ap (λ (k : ℕ). old.marks.items ++ replicate (next - k) Skip) c.loop-at.invariant.long in
    let out : (k : ℕ) (d : InnerEntry) → at ≤ k → k < next → far_stored c.args.probe.now.need.now.apart (get_or es k d).parent c.args.probe.now.rho ((get_or es k d).radius + radius_of (other c.args.probe.now.need.now)) ≡ true =
    subst (λ (l : List InnerEntry). (k : ℕ) (d : InnerEntry) → at ≤ k → k < next → far_stored c.args.probe.now.need.now.apart (get_or l k d).parent c.args.probe.now.rho ((get_or l k d).radius + radius_of (other c.args.probe.now.need.now)) ≡ true)
    c.seen-subtrees.ensures c.next_subtree-next.ensures.ruled_out in
    let here : entry ≡ get_or es next entry = c.at.ensures ∙ ap (λ (l : List InnerEntry). get_or l next entry) c.seen-subtrees.ensures in
    let low : next < length es = omega (arith, high, c.len-in-loop-at.ensures, ap length c.seen-subtrees.ensures) in
    let item : (level : ℕ) → c.args.probe.now.node.now ≡ Inner level es → item_at c.args.probe.now.node.now next ≡ subtree_item level entry =
    λ level inner. subtree_at c.args.probe.now.node.now level es next entry inner low here in
    let u0 = g.R.Ruler.used c.args.ruler.now in
    let u1 = g.R.Ruler.used c.loop-at.ruler in
    record {
      metric = c.measure_subtree.ensures.metric ∙ c.loop-at.invariant.metric;
      long = omega (
        arith,
        long_next h c.args.probe.now.need.now (subtree_entry c.requires.inner.0 entry) mid new (c.in_ok-measure_subtree.ensures.taken c.requires.inner.0 (item c.requires.inner.0 c.requires.inner.1)),
        long_skipped old.marks.items mid.marks.items next c.in_ok-skip_up_to.ensures.marks (omega (arith, c.loop-at.invariant.long, c.next_subtree-next.ensures.low)),
      );
      counted = counts_both u0 u1 (g.R.Ruler.used c.measure_subtree.new.ruler) start.marks.items mid.marks.items new.marks.items
          (counts_both u0 u1 u1 start.marks.items old.marks.items mid.marks.items c.loop-at.invariant.counted (counts_skipped u1 (next - at) old.marks.items mid.marks.items skipped))
          c.in_ok-measure_subtree.ensures.counted;
      taken = λ level inner.
          takes_next j h c.args.probe.now.need.now (subtree_entry level) es next entry start mid new same low here (c.in_ok-measure_subtree.ensures.taken level (item level inner))
          (takes_skipped j c.args.probe.now.need.now (subtree_entry level) es at next start old mid c.next_subtree-next.ensures.low high out skipped c.skip_up_to.ensures.matches (c.loop-at.invariant.taken level inner));
    }

pub returns-then-next-len-clause-counted : goal.returns-then-next-len-clause-counted
returns-then-next-len-clause-counted g c =
    let u0 = g.R.Ruler.used c.args.ruler.now in
    let u1 = g.R.Ruler.used c.loop-at.ruler in
    let old = c.loop-at.opening in
    let mid = c.skip_up_to.new.self in
    counts_both u0 u1 u1 c.args.opening.now.marks.items old.marks.items mid.marks.items c.loop-at.invariant.counted
    (counts_skipped u1 (c.next_subtree-next.result - length old.marks.items) old.marks.items mid.marks.items c.in_ok-skip_up_to.ensures.marks)

pub returns-then-next-len-clause-taken : goal.returns-then-next-len-clause-taken
returns-then-next-len-clause-taken g c =
    let j : JoinSearch = search_within (g.R.M.Metric.space (g.R.Ruler.metric c.args.ruler.now)) c.args.probe.now.rho in
    let es = c.args.entries.now in
    let at = c.loop-at.at in
    let next = c.next_subtree-next.result in
    let start = c.args.opening.now in
    let old = c.loop-at.opening in
    let mid = c.skip_up_to.new.self in
    let high : next ≤ length es = omega (arith, c.next_subtree-next.ensures.high, ap length c.seen-subtrees.ensures) in
    let skipped : mid.marks.items ≡ old.marks.items ++ replicate (next - at) Skip =
    c.in_ok-skip_up_to.ensures.marks ∙ ap (λ (k : ℕ). old.marks.items ++ replicate (next - k) Skip) c.loop-at.invariant.long in
    let out : (k : ℕ) (d : InnerEntry) → at ≤ k → k < next → far_stored c.args.probe.now.need.now.apart (get_or es k d).parent c.args.probe.now.rho ((get_or es k d).radius + radius_of (other c.args.probe.now.need.now)) ≡ true =
    subst (λ (l : List InnerEntry). (k : ℕ) (d : InnerEntry) → at ≤ k → k < next → far_stored c.args.probe.now.need.now.apart (get_or l k d).parent c.args.probe.now.rho ((get_or l k d).radius + radius_of (other c.args.probe.now.need.now)) ≡ true)
    c.seen-subtrees.ensures c.next_subtree-next.ensures.ruled_out in
    rw c.requires.inner.1
    (takes_all j c.args.probe.now.need.now (subtree_entry c.requires.inner.0) es next start mid (omega (arith, c.if-next-len.true, c.len-in-loop-at.ensures, ap length c.seen-subtrees.ensures))
    (takes_skipped j c.args.probe.now.need.now (subtree_entry c.requires.inner.0) es at next start old mid c.next_subtree-next.ensures.low high out skipped c.skip_up_to.ensures.matches (c.loop-at.invariant.taken c.requires.inner.0 c.requires.inner.1)))

pub returns-clause-taken : goal.returns-clause-taken
returns-clause-taken g c =
    rw c.requires.inner.1
    (takes_all (search_within (g.R.M.Metric.space (g.R.Ruler.metric c.args.ruler.now)) c.args.probe.now.rho) c.args.probe.now.need.now (subtree_entry c.requires.inner.0) c.args.entries.now c.loop-at.at c.args.opening.now c.loop-at.opening
    (omega (arith, c.len.ensures, ap length c.seen-subtrees.ensures)) (c.loop-at.invariant.taken c.requires.inner.0 c.requires.inner.1))
