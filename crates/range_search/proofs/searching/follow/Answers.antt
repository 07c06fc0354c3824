use Rattle.std.proofs.Common.{◌≡◌, ◌∙◌, ◌∷◌, ℕ, suc, ap, arith, length, reverse}
use Rattle.std.proofs.lemmas.Grind.{common_steps}
use Rattle.std.proofs.lemmas.Result.{err_from_is_err_and}
use Rattle.metric_laws.specs.Counts.{next_count}
use Rattle.log_model.specs.Walk.{Search, search_at}
use Rattle.log_model.proofs.Published.{count_up_more}
use Rattle.range_search.specs.Searched.{IsUnderWay}
use Rattle.range_search.proofs.Steps.{goes_on, cause_here}
use Rattle.range_search.proofs.searching.follow.Goals as goal

pub loop-need-preserved : goal.loop-need-preserved
loop-need-preserved g c =
    let stack : reverse c.loop-need.walk.stack.items ≡ c.in-Some.need ∷ reverse c.pop.new.self.items = grind (arith, common_steps, c.in-Some.ensures.items) in
    record {
      metric = c.open_page.ensures.metric ∙ c.loop-need.invariant.metric;
      keeps = g.met.P.Pages.keeps_both c.args.pages.now c.loop-need.pages c.open_page.new.pages c.loop-need.invariant.keeps c.open_page.ensures.keeps;
      no_fault = c.in_ok-open_page.ensures.no_fault ∙ c.loop-need.invariant.no_fault;
      count = (let l = c.in_ok-open_page.ensures.longer in let n = c.loop-need.invariant.count in omega arith);
      low = omega arith;
      way = goes_on (search_at (g.R.M.Metric.space (g.R.Ruler.metric c.args.ruler.now)) c.args.probe.q.now c.args.probe.rho)
          (search_at (g.R.M.Metric.space (g.R.Ruler.metric c.loop-need.ruler)) c.args.probe.q.now c.args.probe.rho)
          (g.P.Pages.shelf c.args.pages.now) (g.P.Pages.shelf c.loop-need.pages) (g.P.Pages.shelf c.open_page.new.pages)
          (g.R.Ruler.used c.args.ruler.now) (g.R.Ruler.used c.loop-need.ruler) (g.R.Ruler.used c.open_page.new.ruler) c.args.live.now.root c.in-Some.need
          (reverse c.loop-need.walk.stack.items) (reverse c.pop.new.self.items) (reverse c.open_page.new.walk.stack.items)
          c.loop-need.walk.records.items c.open_page.new.walk.records.items c.loop-need.walk.tagged.items c.open_page.new.walk.tagged.items
          (ap (λ m. search_at (g.R.M.Metric.space m) c.args.probe.q.now c.args.probe.rho) c.loop-need.invariant.metric) stack
          (c.in_ok-open_page.ensures.opened (g.P.Pages.shelf c.args.pages.now) (g.R.Ruler.used c.args.ruler.now) c.args.live.now.root) c.loop-need.invariant.way;
    }

pub returns-in_err-open_page-clause-asked : goal.returns-in_err-open_page-clause-asked
returns-in_err-open_page-clause-asked g c =
    let opened : ℕ = length c.loop-need.walk.records.items in
    let count = c.loop-need.invariant.count in
    (suc opened, (omega arith), c.open_page.ensures.asked ∙ ap next_count c.loop-need.invariant.way.asked ∙ count_up_more (g.P.Pages.shelf c.args.pages.now).asked opened)

pub returns-in_err-open_page-clause-cause : goal.returns-in_err-open_page-clause-cause
returns-in_err-open_page-clause-cause g c =
    let f : Search = search_at (g.R.M.Metric.space (g.R.Ruler.metric c.args.ruler.now)) c.args.probe.q.now c.args.probe.rho in
    let stack : reverse c.loop-need.walk.stack.items ≡ c.in-Some.need ∷ reverse c.pop.new.self.items = grind (arith, common_steps, c.in-Some.ensures.items) in
    let way : IsUnderWay f (g.P.Pages.shelf c.args.pages.now) (g.P.Pages.shelf c.loop-need.pages) (g.R.Ruler.used c.args.ruler.now) (g.R.Ruler.used c.loop-need.ruler) c.args.live.now.root
    c.loop-need.walk.records.items c.loop-need.walk.tagged.items (c.in-Some.need ∷ reverse c.pop.new.self.items) = rw stack at c.loop-need.invariant.way in
    let count = c.loop-need.invariant.count in
    let low = c.loop-need.invariant.low in
    let p = err_from_is_err_and c.from_residual-in_err-open_page.result c.from_residual-in_err-open_page.ensures.1 in
    rw (p.1, p.2) (cause_here f c.args.live.now (g.P.Pages.shelf c.args.pages.now) (g.P.Pages.shelf c.loop-need.pages) (g.P.Pages.shelf c.open_page.new.pages)
    (g.R.Ruler.used c.args.ruler.now) (g.R.Ruler.used c.loop-need.ruler) c.in-Some.need (reverse c.pop.new.self.items) c.loop-need.walk.records.items c.loop-need.walk.tagged.items way
    c.in_err-open_page.field-0.0 (omega arith) c.in_err-open_page.ensures.cause)
