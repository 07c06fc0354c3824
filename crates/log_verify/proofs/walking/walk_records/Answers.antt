use Rattle.std.proofs.Common.{◌∙◌, ◌∷◌, [], reverse, length, ap, arith}
use Rattle.std.proofs.lemmas.Result.{err_from_is_err_and}
use Rattle.log_model.specs.Walk.{Search, search_at, root_need}
use Rattle.log_verify.specs.Judged.{walked}
use Rattle.log_verify.proofs.Ways.{way_next, way_ends, asked_next, asked_ends, cost_next, cost_ends}
use Rattle.log_verify.proofs.walking.walk_records.Goals as goal
use Rattle.page_store.proofs.Published.{holds_both}

pub returns-in_err-take_record-clause-few_asked : goal.returns-in_err-take_record-clause-few_asked
returns-in_err-take_record-clause-few_asked g c =
    asked_ends _ _ _ c.loop-told.told-index (length c.args.records.now) c.loop-told-test.true c.loop-told.invariant.asked c.take_record.ensures.few_asked

pub returns-in_err-take_record-clause-few_counted : goal.returns-in_err-take_record-clause-few_counted
returns-in_err-take_record-clause-few_counted g c =
    cost_ends _ _ _ c.args.records.now c.loop-told.told-index c.told-item.result c.loop-told-test.true c.told-item.is c.loop-told.invariant.counted c.take_record.ensures.few_counted

pub returns-in_err-take_record-clause-cause : goal.returns-in_err-take_record-clause-cause
returns-in_err-take_record-clause-cause g c =
    let p = err_from_is_err_and c.from_residual-in_err-take_record.result c.from_residual-in_err-take_record.ensures.1 in
    let f : Search = search_at (g.R.M.Metric.space (g.R.Ruler.metric c.args.ruler.now)) c.args.probe.q.now c.args.probe.rho in
    let h : Search = search_at (g.R.M.Metric.space (g.R.Ruler.metric c.loop-told.ruler)) c.args.probe.q.now c.args.probe.rho in
    rw (p.1, p.2)
    (way_ends f h (g.P.Pages.shelf c.args.pages.now) (g.P.Pages.shelf c.loop-told.pages) c.loop-told.walk.hits.items (reverse c.loop-told.walk.stack.items) c.args.records.now c.loop-told.told-index
    c.loop-told.walk.taken c.told-item.result (walked f (g.P.Pages.shelf c.args.pages.now).read [] (root_need c.args.root ∷ []) c.args.records.now 0)
    (ap (λ m. search_at (g.R.M.Metric.space m) c.args.probe.q.now c.args.probe.rho) c.loop-told.invariant.metric) c.loop-told.invariant.same c.loop-told-test.true c.told-item.is c.loop-told.invariant.way
    (g.P.Pages.shelf c.take_record.new.pages) c.in_err-take_record.field-0.0 c.in_err-take_record.ensures.cause)

pub loop-told-preserved : goal.loop-told-preserved
loop-told-preserved g c =
    let f : Search = search_at (g.R.M.Metric.space (g.R.Ruler.metric c.args.ruler.now)) c.args.probe.q.now c.args.probe.rho in
    let h : Search = search_at (g.R.M.Metric.space (g.R.Ruler.metric c.loop-told.ruler)) c.args.probe.q.now c.args.probe.rho in
    record {
      metric = c.take_record.ensures.metric ∙ c.loop-told.invariant.metric;
      same = holds_both _ _ _ c.loop-told.invariant.same c.take_record.ensures.same;
      keeps = g.met.P.Pages.keeps_both c.args.pages.now c.loop-told.pages c.take_record.new.pages c.loop-told.invariant.keeps c.take_record.ensures.keeps;
      no_fault = c.in_ok-take_record.ensures.no_fault ∙ c.loop-told.invariant.no_fault;
      asked = asked_next _ _ _ c.loop-told.told-index c.loop-told.invariant.asked c.in_ok-take_record.ensures.asked;
      reads = omega (arith, c.loop-told.invariant.reads, c.take_record.ensures.reads);
      counted = cost_next _ _ _ c.args.records.now c.loop-told.told-index c.told-item.result c.loop-told-test.true c.told-item.is c.loop-told.invariant.counted c.in_ok-take_record.ensures.counted;
      taken = omega (arith, c.in_ok-take_record.ensures.taken, c.loop-told.invariant.taken);
      way = way_next f h (g.P.Pages.shelf c.args.pages.now) (g.P.Pages.shelf c.loop-told.pages) c.loop-told.walk.hits.items (reverse c.loop-told.walk.stack.items) c.args.records.now c.loop-told.told-index
          c.loop-told.walk.taken c.told-item.result (walked f (g.P.Pages.shelf c.args.pages.now).read [] (root_need c.args.root ∷ []) c.args.records.now 0)
          (ap (λ m. search_at (g.R.M.Metric.space m) c.args.probe.q.now c.args.probe.rho) c.loop-told.invariant.metric) c.loop-told.invariant.same c.loop-told-test.true c.told-item.is c.loop-told.invariant.way
          c.take_record.new.walk.hits.items (reverse c.take_record.new.walk.stack.items) c.take_record.new.walk.taken c.in_ok-take_record.ensures.ok;
    }
