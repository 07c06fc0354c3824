use Rattle.std.proofs.Common.{◌≡◌, ◌∙◌, ◌+◌, reverse, length, ap, arith}
use Rattle.std.proofs.lemmas.Result.{err_from_is_err_and}
use Rattle.log_model.specs.JoinWalk.{JoinSearch}
use Rattle.log_model.specs.JoinSteps.{search_within}
use Rattle.log_verify.specs.JoinJudged.{join_walked}
use Rattle.log_verify.proofs.Counting.{record_upto, records_upto, ask_on, ask_more}
use Rattle.log_verify.proofs.JoinWays.{join_next, join_ends}
use Rattle.log_verify.proofs.join_walking.walk_records.Goals as goal
use Rattle.page_store.proofs.Published.{holds_both}

pub returns-in_err-take_record-clause-cause : goal.returns-in_err-take_record-clause-cause
returns-in_err-take_record-clause-cause g c =
    let p = err_from_is_err_and c.from_residual.result c.from_residual.ensures.1 in
    let f : JoinSearch = search_within (g.R.M.Metric.space (g.R.Ruler.metric c.args.ruler.now)) c.args.begun.rho in
    let h : JoinSearch = search_within (g.R.M.Metric.space (g.R.Ruler.metric c.loop-told.ruler)) c.loop-told.walk.rho in
    let same : h ≡ f =
    ap (λ m. search_within (g.R.M.Metric.space m) c.loop-told.walk.rho) c.loop-told.invariant.metric ∙ ap (search_within (g.R.M.Metric.space (g.R.Ruler.metric c.args.ruler.now))) c.loop-told.invariant.rho in
    rw (p.1, p.2)
    (join_ends f h (g.P.Pages.shelf c.args.left.now) (g.P.Pages.shelf c.loop-told.left) (g.Q.Pages.shelf c.args.right.now) (g.Q.Pages.shelf c.loop-told.right)
    c.loop-told.walk.named.hits.items (reverse c.loop-told.walk.stack.items) c.args.records.now c.loop-told.told-index c.loop-told.walk.taken c.told-item.result
    (join_walked f (g.P.Pages.shelf c.args.left.now).read (g.Q.Pages.shelf c.args.right.now).read c.args.begun.named.hits.items (reverse c.args.begun.stack.items) c.args.records.now 0)
    same c.loop-told.invariant.left_same c.loop-told.invariant.right_same c.loop-told-test.true c.told-item.is c.loop-told.invariant.way
    (g.P.Pages.shelf c.take_record.new.left) (g.Q.Pages.shelf c.take_record.new.right) c.in_err-take_record.field-0.0 c.in_err-take_record.ensures.cause)

pub loop-told-preserved : goal.loop-told-preserved
loop-told-preserved g c =
    let f : JoinSearch = search_within (g.R.M.Metric.space (g.R.Ruler.metric c.args.ruler.now)) c.args.begun.rho in
    let h : JoinSearch = search_within (g.R.M.Metric.space (g.R.Ruler.metric c.loop-told.ruler)) c.loop-told.walk.rho in
    let same : h ≡ f =
    ap (λ m. search_within (g.R.M.Metric.space m) c.loop-told.walk.rho) c.loop-told.invariant.metric ∙ ap (search_within (g.R.M.Metric.space (g.R.Ruler.metric c.args.ruler.now))) c.loop-told.invariant.rho in
    record {
      metric = c.take_record.ensures.metric ∙ c.loop-told.invariant.metric;
      left_same = holds_both _ _ _ c.loop-told.invariant.left_same c.take_record.ensures.left_same;
      left_keeps = g.met.P.Pages.keeps_both c.args.left.now c.loop-told.left c.take_record.new.left c.loop-told.invariant.left_keeps c.take_record.ensures.left_keeps;
      left_no_fault = c.in_ok-take_record.ensures.left_no_fault ∙ c.loop-told.invariant.left_no_fault;
      right_same = holds_both _ _ _ c.loop-told.invariant.right_same c.take_record.ensures.right_same;
      right_keeps = g.met.Q.Pages.keeps_both c.args.right.now c.loop-told.right c.take_record.new.right c.loop-told.invariant.right_keeps c.take_record.ensures.right_keeps;
      right_no_fault = c.in_ok-take_record.ensures.right_no_fault ∙ c.loop-told.invariant.right_no_fault;
      rho = c.take_record.ensures.rho ∙ c.loop-told.invariant.rho;
      taken = omega (arith, c.in_ok-take_record.ensures.taken, c.loop-told.invariant.taken);
      asked = ask_on _ _ _ _ _ _ c.loop-told.told-index 1 (c.loop-told.told-index + 1) c.loop-told.invariant.asked c.take_record.ensures.few_asked (omega arith);
      counted = record_upto _ _ _ c.args.records.now c.loop-told.told-index c.told-item.result c.loop-told-test.true c.told-item.is c.loop-told.invariant.counted c.take_record.ensures.few_counted;
      way = join_next f h (g.P.Pages.shelf c.args.left.now) (g.P.Pages.shelf c.loop-told.left) (g.Q.Pages.shelf c.args.right.now) (g.Q.Pages.shelf c.loop-told.right)
          c.loop-told.walk.named.hits.items (reverse c.loop-told.walk.stack.items) c.args.records.now c.loop-told.told-index c.loop-told.walk.taken c.told-item.result
          (join_walked f (g.P.Pages.shelf c.args.left.now).read (g.Q.Pages.shelf c.args.right.now).read c.args.begun.named.hits.items (reverse c.args.begun.stack.items) c.args.records.now 0)
          same c.loop-told.invariant.left_same c.loop-told.invariant.right_same c.loop-told-test.true c.told-item.is c.loop-told.invariant.way
          c.take_record.new.walk.named.hits.items (reverse c.take_record.new.walk.stack.items) c.take_record.new.walk.taken c.in_ok-take_record.ensures.ok;
    }

pub returns-in_err-take_record-clause-few_asked : goal.returns-in_err-take_record-clause-few_asked
returns-in_err-take_record-clause-few_asked g c =
    ask_on _ _ _ _ _ _ c.loop-told.told-index 1 (length c.args.records.now) c.loop-told.invariant.asked c.take_record.ensures.few_asked (omega (arith, c.loop-told-test.true))

pub returns-in_err-take_record-clause-few_counted : goal.returns-in_err-take_record-clause-few_counted
returns-in_err-take_record-clause-few_counted g c =
    records_upto _ _ c.args.records.now (c.loop-told.told-index + 1)
    (record_upto _ _ _ c.args.records.now c.loop-told.told-index c.told-item.result c.loop-told-test.true c.told-item.is c.loop-told.invariant.counted c.take_record.ensures.few_counted)

pub returns-then-not-is_empty-clause-few_asked : goal.returns-then-not-is_empty-clause-few_asked
returns-then-not-is_empty-clause-few_asked g c = ask_more _ _ _ _ c.loop-told.told-index (length c.args.records.now) c.loop-told.invariant.asked (omega arith)

pub returns-then-not-is_empty-clause-few_counted : goal.returns-then-not-is_empty-clause-few_counted
returns-then-not-is_empty-clause-few_counted g c = records_upto _ _ c.args.records.now c.loop-told.told-index c.loop-told.invariant.counted

pub returns-clause-few_asked : goal.returns-clause-few_asked
returns-clause-few_asked g c = ask_more _ _ _ _ c.loop-told.told-index (length c.args.records.now) c.loop-told.invariant.asked (omega arith)

pub returns-clause-few_counted : goal.returns-clause-few_counted
returns-clause-few_counted g c = records_upto _ _ c.args.records.now c.loop-told.told-index c.loop-told.invariant.counted
