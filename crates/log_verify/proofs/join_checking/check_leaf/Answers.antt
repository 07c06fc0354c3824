use Rattle.std.proofs.Common.{◌≡◌, ◌∙◌, ◌++◌, ap, sym, subst, get_or, true, refl, length, map, ℕ, ◌<◌, ◌≤◌, ◌+◌, arith, List}
use Rattle.metric_laws.specs.Space.{Space}
use Rattle.metric_laws.specs.Counts.{CountsUpTo}
use Rattle.tree_shape.specs.declared.entry.LeafEntry.{LeafEntry}
use Rattle.tree_shape.specs.Entries.{leaf_of}
use Rattle.log_model.specs.declared.marks.Mark.{Mark}
use Rattle.log_model.specs.declared.marks.Mark.TheVariants.{Skip}
use Rattle.log_model.specs.declared.pairs.JoinNeed.{JoinNeed}
use Rattle.log_model.specs.Items.{item_at}
use Rattle.log_model.specs.JoinWalk.{JoinSearch, Entry, allows_entry, with_entry, far_stored, other, radius_of, object_entry}
use Rattle.log_model.specs.JoinSteps.{search_within, hits_among, needs_among}
use Rattle.log_model.proofs.Published.{object_at}
use Rattle.log_verify.proofs.Counting.{next_upto, marks_upto, upto_none}
use Rattle.log_verify.proofs.OneMark.{mark_is, not_false}
use Rattle.log_verify.proofs.JoinMarks.{hits_next, needs_next, left_mapped}
use Rattle.log_verify.proofs.JoinRuns.{wrong_on, near_on, measured_on}
use Rattle.log_verify.proofs.join_checking.check_leaf.Goals as goal

pub loop-at-init : goal.loop-at-init
loop-at-init g c =
    let s : Space = g.R.M.Metric.space (g.R.Ruler.metric c.args.ruler.now) in
    let j : JoinSearch = search_within s c.args.probe.now.rho in
    let n : JoinNeed = c.args.probe.now.need.now in
    let es = c.args.entries.now in
    let marks = c.args.marks.now in
    let next = c.pass_objects-at.result in
    let high : next ≤ length es = omega (arith, c.pass_objects-at.ensures.high, ap length c.seen-objects.ensures) in
    let skipped = subst (λ (l : List LeafEntry). (k : ℕ) (d : LeafEntry) → 0 ≤ k → k < next → far_stored n.apart (get_or l k d).parent c.args.probe.now.rho (0 + radius_of (other n)) ≡ true) c.seen-objects.ensures c.pass_objects-at.ensures.skipped in
    let near = near_on j n object_entry es marks 0 next c.pass_objects-at.ensures.low high c.requires.long c.pass_objects-at.ensures.marks skipped in
    record {
      metric = refl;
      wrong = wrong_on j n object_entry es marks 0 next c.pass_objects-at.ensures.low high c.requires.long c.pass_objects-at.ensures.marks skipped;
      hits = ap (λ (xs : List Entry). c.args.named.now.hits.items ++ hits_among (map (with_entry s n) xs)) near;
      needs = ap (λ (xs : List Entry). c.args.named.now.needs.items ++ needs_among (map (with_entry s n) xs)) near;
      low = high;
      counted = upto_none _ _;
    }

pub loop-at-preserved : goal.loop-at-preserved
loop-at-preserved g c =
    let s : Space = g.R.M.Metric.space (g.R.Ruler.metric c.args.ruler.now) in
    let j : JoinSearch = search_within s c.args.probe.now.rho in
    let n : JoinNeed = c.args.probe.now.need.now in
    let es = c.args.entries.now in
    let marks = c.args.marks.now in
    let at = c.loop-at.at in
    let e : LeafEntry = leaf_of c.at-entry.result in
    let mark : Mark = get_or marks at Skip in
    let below : at < length es = omega (arith, c.len.ensures, ap length c.seen-objects.ensures, c.loop-at-test.true) in
    let low : at < length marks = omega (arith, c.requires.long, below) in
    let is : e ≡ get_or es at e = c.at-entry.ensures ∙ ap (λ (l : List LeafEntry). get_or l at e) c.seen-objects.ensures in
    let item = item_at c.args.probe.now.node.now at in
    let same = object_at c.args.probe.now.node.now es at e c.requires.leaf below is in
    let here : g.R.M.Metric.space (g.R.Ruler.metric c.loop-at.ruler) ≡ s = ap (λ m. g.R.M.Metric.space m) c.loop-at.invariant.metric in
    let fine : allows_entry j n (object_entry e) mark ≡ true =
    subst (λ (t : Space). allows_entry (search_within t c.args.probe.now.rho) n (object_entry e) mark ≡ true) here (sym c.check_object-checked.ensures.allowed ∙ not_false c.check_object-checked.result.allowed c.if-not-checked.false) in
    let next = c.pass_objects-at-in-loop-at.result in
    let high : next ≤ length es = omega (arith, c.pass_objects-at-in-loop-at.ensures.high, ap length c.seen-objects.ensures) in
    let skipped = subst (λ (l : List LeafEntry). (k : ℕ) (d : LeafEntry) → at + 1 ≤ k → k < next → far_stored n.apart (get_or l k d).parent c.args.probe.now.rho (0 + radius_of (other n)) ≡ true) c.seen-objects.ensures c.pass_objects-at-in-loop-at.ensures.skipped in
    let near = near_on j n object_entry es marks (at + 1) next c.pass_objects-at-in-loop-at.ensures.low high c.requires.long c.pass_objects-at-in-loop-at.ensures.marks skipped in
    record {
      metric = c.check_object-checked.ensures.metric ∙ c.loop-at.invariant.metric;
      wrong = wrong_on j n object_entry es marks (at + 1) next c.pass_objects-at-in-loop-at.ensures.low high c.requires.long c.pass_objects-at-in-loop-at.ensures.marks skipped
          ∙ left_mapped (allows_entry j n) object_entry es marks at e below c.requires.long is fine ∙ c.loop-at.invariant.wrong;
      hits = ap (λ (xs : List Entry). c.name_object.new.named.hits.items ++ hits_among (map (with_entry s n) xs)) near
          ∙ hits_next s n object_entry es marks at e item c.check_object-checked.result.apart below c.requires.long is same
          (λ near. c.check_object-checked.ensures.apart near ∙ ap (λ (t : Space). (with_entry t n (object_entry e)).apart) here) _ _ _ c.in_ok-name_object.ensures.hits c.loop-at.invariant.hits;
      needs = ap (λ (xs : List Entry). c.name_object.new.named.needs.items ++ needs_among (map (with_entry s n) xs)) near
          ∙ needs_next s n object_entry es marks at e item c.check_object-checked.result.apart below c.requires.long is same
          (λ near. c.check_object-checked.ensures.apart near ∙ ap (λ (t : Space). (with_entry t n (object_entry e)).apart) here) _ _ _ c.in_ok-name_object.ensures.needs c.loop-at.invariant.needs;
      low = high;
      counted = subst (λ (most : ℕ). CountsUpTo (g.R.Ruler.used c.args.ruler.now) (g.R.Ruler.used c.check_object-checked.new.ruler) most)
          (sym (measured_on j n object_entry es marks (at + 1) next c.pass_objects-at-in-loop-at.ensures.low high c.requires.long c.pass_objects-at-in-loop-at.ensures.marks skipped))
          (next_upto _ _ _ marks at mark low (mark_is marks at low) c.loop-at.invariant.counted c.check_object-checked.ensures.counted);
    }

pub returns-then-not-checked-clause-few_counted : goal.returns-then-not-checked-clause-few_counted
returns-then-not-checked-clause-few_counted g c =
    let marks = c.args.marks.now in
    let at = c.loop-at.at in
    let low : at < length marks = omega (arith, c.requires.long, c.len.ensures, ap length c.seen-objects.ensures, c.loop-at-test.true) in
    marks_upto _ _ marks (at + 1) (next_upto _ _ _ marks at (get_or marks at Skip) low (mark_is marks at low) c.loop-at.invariant.counted c.check_object-checked.ensures.counted)

pub returns-in_err-name_object-clause-few_counted : goal.returns-in_err-name_object-clause-few_counted
returns-in_err-name_object-clause-few_counted g c =
    let marks = c.args.marks.now in
    let at = c.loop-at.at in
    let low : at < length marks = omega (arith, c.requires.long, c.len.ensures, ap length c.seen-objects.ensures, c.loop-at-test.true) in
    marks_upto _ _ marks (at + 1) (next_upto _ _ _ marks at (get_or marks at Skip) low (mark_is marks at low) c.loop-at.invariant.counted c.check_object-checked.ensures.counted)

pub returns-clause-few_counted : goal.returns-clause-few_counted
returns-clause-few_counted g c = marks_upto _ _ c.args.marks.now c.loop-at.at c.loop-at.invariant.counted
