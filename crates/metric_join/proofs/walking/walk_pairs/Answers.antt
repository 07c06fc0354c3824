use Rattle.std.proofs.Common.{◌≡◌, ◌∙◌, ◌∷◌, [], List, ap, arith, reverse, subst}
use Rattle.std.proofs.lemmas.Grind.{common_steps}
use Rattle.std.proofs.lemmas.Result.{err_from_is_err_and}
use Rattle.log_model.specs.JoinWalk.{JoinSearch}
use Rattle.log_model.specs.JoinSteps.{search_within}
use Rattle.metric_join.specs.declared.walking.Waiting.{Waiting}
use Rattle.metric_join.specs.Steps.{IsUnderWay}
use Rattle.metric_join.proofs.Stops.{on_with, stops_with}
use Rattle.metric_join.proofs.walking.walk_pairs.Goals as goal
use Rattle.page_store.proofs.Published.{holds_both}

pub returns-in_err-open_pair-clause-cause : goal.returns-in_err-open_pair-clause-cause
returns-in_err-open_pair-clause-cause g c =
    let p = err_from_is_err_and c.from_residual.result c.from_residual.ensures.1 in
    let stack : reverse c.loop-waiting.walk.stack.items ≡ c.in-Some.waiting ∷ reverse c.pop.new.self.items = grind (arith, common_steps, c.in-Some.ensures.items) in
    rw (p.1, p.2)
    (λ l r begun.
    stops_with (search_within (g.R.M.Metric.space (g.R.Ruler.metric c.args.ruler.now)) c.args.begun.rho) l r (g.P.Pages.shelf c.args.left.now) (g.P.Pages.shelf c.loop-waiting.left) (g.P.Pages.shelf c.open_pair.new.left)
    (g.Q.Pages.shelf c.args.right.now) (g.Q.Pages.shelf c.loop-waiting.right) (g.Q.Pages.shelf c.open_pair.new.right) (g.R.Ruler.used c.args.ruler.now) (g.R.Ruler.used c.loop-waiting.ruler)
    c.loop-waiting.walk.records.items c.loop-waiting.walk.hits.items c.in-Some.waiting (reverse c.loop-waiting.walk.stack.items) (reverse c.pop.new.self.items) stack
    (c.loop-waiting.invariant.way l r begun) c.in_err-open_pair.field-0.0 c.in_err-open_pair.ensures.cause)

pub loop-waiting-preserved : goal.loop-waiting-preserved
loop-waiting-preserved g c =
    let stack : reverse c.loop-waiting.walk.stack.items ≡ c.in-Some.waiting ∷ reverse c.pop.new.self.items = grind (arith, common_steps, c.in-Some.ensures.items) in
    let f : JoinSearch = search_within (g.R.M.Metric.space (g.R.Ruler.metric c.args.ruler.now)) c.args.begun.rho in
    let h : JoinSearch = search_within (g.R.M.Metric.space (g.R.Ruler.metric c.loop-waiting.ruler)) c.loop-waiting.walk.rho in
    let same : h ≡ f =
    ap (λ m. search_within (g.R.M.Metric.space m) c.loop-waiting.walk.rho) c.loop-waiting.invariant.metric ∙ ap (search_within (g.R.M.Metric.space (g.R.Ruler.metric c.args.ruler.now))) c.loop-waiting.invariant.rho in
    record {
      metric = c.open_pair.ensures.metric ∙ c.loop-waiting.invariant.metric;
      left_same = holds_both _ _ _ c.loop-waiting.invariant.left_same c.open_pair.ensures.left_same;
      left_no_fault = c.in_ok-open_pair.ensures.left_no_fault ∙ c.loop-waiting.invariant.left_no_fault;
      left_keeps = g.met.P.Pages.keeps_both c.args.left.now c.loop-waiting.left c.open_pair.new.left c.loop-waiting.invariant.left_keeps c.open_pair.ensures.left_keeps;
      right_same = holds_both _ _ _ c.loop-waiting.invariant.right_same c.open_pair.ensures.right_same;
      right_no_fault = c.in_ok-open_pair.ensures.right_no_fault ∙ c.loop-waiting.invariant.right_no_fault;
      right_keeps = g.met.Q.Pages.keeps_both c.args.right.now c.loop-waiting.right c.open_pair.new.right c.loop-waiting.invariant.right_keeps c.open_pair.ensures.right_keeps;
      rho = c.open_pair.ensures.rho ∙ c.loop-waiting.invariant.rho;
      way = λ l r begun.
          on_with f h l r (g.P.Pages.shelf c.args.left.now) (g.P.Pages.shelf c.loop-waiting.left) (g.P.Pages.shelf c.open_pair.new.left)
          (g.Q.Pages.shelf c.args.right.now) (g.Q.Pages.shelf c.loop-waiting.right) (g.Q.Pages.shelf c.open_pair.new.right)
          (g.R.Ruler.used c.args.ruler.now) (g.R.Ruler.used c.loop-waiting.ruler) (g.R.Ruler.used c.open_pair.new.ruler)
          c.loop-waiting.walk.records.items c.open_pair.new.walk.records.items c.loop-waiting.walk.hits.items c.open_pair.new.walk.hits.items c.in-Some.waiting
          (reverse c.loop-waiting.walk.stack.items) (reverse c.pop.new.self.items) (reverse c.open_pair.new.walk.stack.items) same stack
          (c.in_ok-open_pair.ensures.on l r (g.P.Pages.shelf c.args.left.now) (g.Q.Pages.shelf c.args.right.now) (g.R.Ruler.used c.args.ruler.now)) (c.loop-waiting.invariant.way l r begun);
    }

pub returns-clause-ok : goal.returns-clause-ok
returns-clause-ok g c l r begun =
    let none : ◌≡◌ {A = List Waiting} (reverse c.loop-waiting.walk.stack.items) [] = grind (arith, common_steps, c.in_default.ensures.items, c.in_default.ensures.len, c.in_default.not-Some) in
    subst (λ (s : List Waiting). IsUnderWay (search_within (g.R.M.Metric.space (g.R.Ruler.metric c.args.ruler.now)) c.args.begun.rho) l r (g.P.Pages.shelf c.args.left.now) (g.P.Pages.shelf c.loop-waiting.left)
    (g.Q.Pages.shelf c.args.right.now) (g.Q.Pages.shelf c.loop-waiting.right) (g.R.Ruler.used c.args.ruler.now) (g.R.Ruler.used c.loop-waiting.ruler)
    c.loop-waiting.walk.records.items c.loop-waiting.walk.hits.items s) none (c.loop-waiting.invariant.way l r begun)
