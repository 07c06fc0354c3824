use Rattle.std.proofs.Common.{◌≡◌, ◌∙◌, ◌++◌, ap, sym, subst, get_or, true, refl, length, map, ℕ, ◌<◌, ◌≤◌, ◌+◌, arith, List}
use Rattle.metric_laws.specs.Space.{Space}
use Rattle.metric_laws.specs.Counts.{CountsUpTo}
use Rattle.tree_shape.specs.declared.entry.InnerEntry.{InnerEntry}
use Rattle.tree_shape.specs.Entries.{inner_of}
use Rattle.log_model.specs.declared.marks.Mark.{Mark}
use Rattle.log_model.specs.declared.marks.Mark.TheVariants.{Skip}
use Rattle.log_model.specs.declared.pairs.JoinNeed.{JoinNeed}
use Rattle.log_model.specs.Items.{item_at}
use Rattle.log_model.specs.JoinWalk.{JoinSearch, Entry, allows_entry, with_entry, far_stored, other, radius_of, subtree_entry}
use Rattle.log_model.specs.JoinSteps.{search_within, hits_among, needs_among}
use Rattle.log_model.proofs.Published.{subtree_at}
use Rattle.log_verify.proofs.Counting.{next_upto, marks_upto, upto_none}
use Rattle.log_verify.proofs.OneMark.{mark_is, not_false}
use Rattle.log_verify.proofs.JoinMarks.{hits_next, needs_next, left_mapped}
use Rattle.log_verify.proofs.JoinRuns.{wrong_on, near_on, measured_on}
use Rattle.log_verify.proofs.join_checking.check_inner.Goals as goal

pub loop-at-init : goal.loop-at-init
loop-at-init g c =
    let s : Space = g.R.M.Metric.space (g.R.Ruler.metric c.args.ruler.now) in
    let j : JoinSearch = search_within s c.args.probe.now.rho in
    let n : JoinNeed = c.args.probe.now.need.now in
    let es = c.args.entries.now in
    let marks = c.args.marks.now in
    let next = c.pass_subtrees-at.result in
    let high : next ≤ length es = omega (arith, c.pass_subtrees-at.ensures.high, ap length c.seen-subtrees.ensures) in
    let skipped = subst (λ (l : List InnerEntry). (k : ℕ) (d : InnerEntry) → 0 ≤ k → k < next → far_stored n.apart (get_or l k d).parent c.args.probe.now.rho ((get_or l k d).radius + radius_of (other n)) ≡ true) c.seen-subtrees.ensures c.pass_subtrees-at.ensures.skipped in
    let near = near_on j n (subtree_entry c.args.level) es marks 0 next c.pass_subtrees-at.ensures.low high c.requires.long c.pass_subtrees-at.ensures.marks skipped in
    record {
      metric = refl;
      wrong = wrong_on j n (subtree_entry c.args.level) es marks 0 next c.pass_subtrees-at.ensures.low high c.requires.long c.pass_subtrees-at.ensures.marks skipped;
      hits = ap (λ (xs : List Entry). c.args.named.now.hits.items ++ hits_among (map (with_entry s n) xs)) near;
      needs = ap (λ (xs : List Entry). c.args.named.now.needs.items ++ needs_among (map (with_entry s n) xs)) near;
      low = high;
      counted = upto_none _ _;
    }

pub loop-at-preserved : goal.loop-at-preserved
loop-at-preserved g c =
    let s : Space = g.R.M.Metric.space (g.R.Ruler.metric c.args.ruler.now) in
    let j : JoinSearch = search_within s c.args.probe.now.rho in
    let n : JoinNeed = c.args.probe.now.need.now in
    let es = c.args.entries.now in
    let marks = c.args.marks.now in
    let at = c.loop-at.at in
    let e : InnerEntry = inner_of c.at-entry.result in
    let mark : Mark = get_or marks at Skip in
    let below : at < length es = omega (arith, c.len.ensures, ap length c.seen-subtrees.ensures, c.loop-at-test.true) in
    let low : at < length marks = omega (arith, c.requires.long, below) in
    let is : e ≡ get_or es at e = c.at-entry.ensures ∙ ap (λ (l : List InnerEntry). get_or l at e) c.seen-subtrees.ensures in
    let item = item_at c.args.probe.now.node.now at in
    let same = subtree_at c.args.probe.now.node.now c.args.level es at e c.requires.inner below is in
    let here : g.R.M.Metric.space (g.R.Ruler.metric c.loop-at.ruler) ≡ s = ap (λ m. g.R.M.Metric.space m) c.loop-at.invariant.metric in
    let fine : allows_entry j n ((subtree_entry c.args.level) e) mark ≡ true =
    subst (λ (t : Space). allows_entry (search_within t c.args.probe.now.rho) n ((subtree_entry c.args.level) e) mark ≡ true) here (sym c.check_subtree-checked.ensures.allowed ∙ not_false c.check_subtree-checked.result.allowed c.if-not-checked.false) in
    let next = c.pass_subtrees-at-in-loop-at.result in
    let high : next ≤ length es = omega (arith, c.pass_subtrees-at-in-loop-at.ensures.high, ap length c.seen-subtrees.ensures) in
    let skipped = subst (λ (l : List InnerEntry). (k : ℕ) (d : InnerEntry) → at + 1 ≤ k → k < next → far_stored n.apart (get_or l k d).parent c.args.probe.now.rho ((get_or l k d).radius + radius_of (other n)) ≡ true) c.seen-subtrees.ensures c.pass_subtrees-at-in-loop-at.ensures.skipped in
    let near = near_on j n (subtree_entry c.args.level) es marks (at + 1) next c.pass_subtrees-at-in-loop-at.ensures.low high c.requires.long c.pass_subtrees-at-in-loop-at.ensures.marks skipped in
    record {
      metric = c.check_subtree-checked.ensures.metric ∙ c.loop-at.invariant.metric;
      wrong = wrong_on j n (subtree_entry c.args.level) es marks (at + 1) next c.pass_subtrees-at-in-loop-at.ensures.low high c.requires.long c.pass_subtrees-at-in-loop-at.ensures.marks skipped
          ∙ left_mapped (allows_entry j n) (subtree_entry c.args.level) es marks at e below c.requires.long is fine ∙ c.loop-at.invariant.wrong;
      hits = ap (λ (xs : List Entry). c.name_subtree.new.named.hits.items ++ hits_among (map (with_entry s n) xs)) near
          ∙ hits_next s n (subtree_entry c.args.level) es marks at e item c.check_subtree-checked.result.apart below c.requires.long is same
          (λ near. c.check_subtree-checked.ensures.apart near ∙ ap (λ (t : Space). (with_entry t n ((subtree_entry c.args.level) e)).apart) here) _ _ _ c.in_ok-name_subtree.ensures.hits c.loop-at.invariant.hits;
      needs = ap (λ (xs : List Entry). c.name_subtree.new.named.needs.items ++ needs_among (map (with_entry s n) xs)) near
          ∙ needs_next s n (subtree_entry c.args.level) es marks at e item c.check_subtree-checked.result.apart below c.requires.long is same
          (λ near. c.check_subtree-checked.ensures.apart near ∙ ap (λ (t : Space). (with_entry t n ((subtree_entry c.args.level) e)).apart) here) _ _ _ c.in_ok-name_subtree.ensures.needs c.loop-at.invariant.needs;
      low = high;
      counted = subst (λ (most : ℕ). CountsUpTo (g.R.Ruler.used c.args.ruler.now) (g.R.Ruler.used c.check_subtree-checked.new.ruler) most)
          (sym (measured_on j n (subtree_entry c.args.level) es marks (at + 1) next c.pass_subtrees-at-in-loop-at.ensures.low high c.requires.long c.pass_subtrees-at-in-loop-at.ensures.marks skipped))
          (next_upto _ _ _ marks at mark low (mark_is marks at low) c.loop-at.invariant.counted c.check_subtree-checked.ensures.counted);
    }

pub returns-then-not-checked-clause-few_counted : goal.returns-then-not-checked-clause-few_counted
returns-then-not-checked-clause-few_counted g c =
    let marks = c.args.marks.now in
    let at = c.loop-at.at in
    let low : at < length marks = omega (arith, c.requires.long, c.len.ensures, ap length c.seen-subtrees.ensures, c.loop-at-test.true) in
    marks_upto _ _ marks (at + 1) (next_upto _ _ _ marks at (get_or marks at Skip) low (mark_is marks at low) c.loop-at.invariant.counted c.check_subtree-checked.ensures.counted)

pub returns-in_err-name_subtree-clause-few_counted : goal.returns-in_err-name_subtree-clause-few_counted
returns-in_err-name_subtree-clause-few_counted g c =
    let marks = c.args.marks.now in
    let at = c.loop-at.at in
    let low : at < length marks = omega (arith, c.requires.long, c.len.ensures, ap length c.seen-subtrees.ensures, c.loop-at-test.true) in
    marks_upto _ _ marks (at + 1) (next_upto _ _ _ marks at (get_or marks at Skip) low (mark_is marks at low) c.loop-at.invariant.counted c.check_subtree-checked.ensures.counted)

pub returns-clause-few_counted : goal.returns-clause-few_counted
returns-clause-few_counted g c = marks_upto _ _ c.args.marks.now c.loop-at.at c.loop-at.invariant.counted
