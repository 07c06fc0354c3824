use Rattle.std.proofs.Common.{◌≡◌, ◌∙◌, ap, sym, subst, length, ◌<◌, ◌+◌, get_or, true, arith, List}
use Rattle.tree_shape.specs.declared.entry.LeafEntry.{LeafEntry}
use Rattle.tree_shape.specs.Entries.{leaf_of}
use Rattle.log_model.specs.declared.marks.Mark.TheVariants.{Skip}
use Rattle.log_model.specs.Walk.{Search, search_at, away, allows_object, hit_of}
use Rattle.log_verify.proofs.Counting.{next_counted, so_far_counted}
use Rattle.log_verify.proofs.OneMark.{one_left, one_named, near_same, named_next, hit_at, mark_is, not_false}
use Rattle.log_verify.proofs.checking.check_leaf.Goals as goal

pub returns-then-not-checked-clause-few_counted : goal.returns-then-not-checked-clause-few_counted
returns-then-not-checked-clause-few_counted g c =
    let low : c.loop-i.i < length c.args.marks.now = omega (arith, c.requires.long, c.len-i-end.ensures, ap length c.seen-view.ensures, c.loop-i-test.true) in
    so_far_counted _ _ c.args.marks.now (c.loop-i.i + 1)
    (next_counted _ _ _ c.args.marks.now c.loop-i.i (get_or c.args.marks.now c.loop-i.i Skip) low (mark_is c.args.marks.now c.loop-i.i low) c.loop-i.invariant.counted c.check_object-checked.ensures.counted)

pub returns-in_err-push_near-clause-few_counted : goal.returns-in_err-push_near-clause-few_counted
returns-in_err-push_near-clause-few_counted g c =
    let low : c.loop-i.i < length c.args.marks.now = omega (arith, c.requires.long, c.len-i-end.ensures, ap length c.seen-view.ensures, c.loop-i-test.true) in
    so_far_counted _ _ c.args.marks.now (c.loop-i.i + 1)
    (next_counted _ _ _ c.args.marks.now c.loop-i.i (get_or c.args.marks.now c.loop-i.i Skip) low (mark_is c.args.marks.now c.loop-i.i low) c.loop-i.invariant.counted c.check_object-checked.ensures.counted)

pub loop-i-preserved : goal.loop-i-preserved
loop-i-preserved g c =
    let f : Search = search_at (g.R.M.Metric.space (g.R.Ruler.metric c.args.ruler.now)) c.args.probe.q.now c.args.probe.rho in
    let e : LeafEntry = leaf_of c.at-entry.result in
    let below : c.loop-i.i < length c.args.entries.now = omega (arith, c.len-i-end.ensures, ap length c.seen-view.ensures, c.loop-i-test.true) in
    let low : c.loop-i.i < length c.args.marks.now = omega (arith, c.requires.long, c.len-i-end.ensures, ap length c.seen-view.ensures, c.loop-i-test.true) in
    let here : search_at (g.R.M.Metric.space (g.R.Ruler.metric c.loop-i.ruler)) c.args.probe.q.now c.args.probe.rho ≡ f =
    ap (λ m. search_at (g.R.M.Metric.space m) c.args.probe.q.now c.args.probe.rho) c.loop-i.invariant.metric in
    let fine : allows_object f c.args.above e (get_or c.args.marks.now c.loop-i.i Skip) ≡ true =
    subst (λ (s : Search). allows_object s c.args.above e (get_or c.args.marks.now c.loop-i.i Skip) ≡ true) here (sym c.check_object-checked.ensures.allowed ∙ not_false c.check_object-checked.result.allowed c.if-not-checked.false) in
    record {
      metric = c.check_object-checked.ensures.metric ∙ c.loop-i.invariant.metric;
      wrong = one_left (allows_object f c.args.above) c.args.entries.now c.args.marks.now c.loop-i.i e below c.requires.long (c.at-entry.ensures ∙ ap (λ (es : List LeafEntry). get_or es c.loop-i.i (leaf_of c.at-entry.result)) c.seen-view.ensures) fine ∙ c.loop-i.invariant.wrong;
      named = named_next _ _ _ _ _ _ _ c.in_ok-push_near.ensures
          (near_same (get_or c.args.marks.now c.loop-i.i Skip) _ (hit_of f e) (λ near. ap (hit_at e.id) (c.check_object-checked.ensures.dist near ∙ ap (λ (s : Search). away s e.point) here)))
          (one_named (hit_of f) c.args.entries.now c.args.marks.now c.loop-i.i e below c.requires.long (c.at-entry.ensures ∙ ap (λ (es : List LeafEntry). get_or es c.loop-i.i (leaf_of c.at-entry.result)) c.seen-view.ensures)) c.loop-i.invariant.named;
      counted = next_counted _ _ _ c.args.marks.now c.loop-i.i (get_or c.args.marks.now c.loop-i.i Skip) low (mark_is c.args.marks.now c.loop-i.i low) c.loop-i.invariant.counted c.check_object-checked.ensures.counted;
    }
