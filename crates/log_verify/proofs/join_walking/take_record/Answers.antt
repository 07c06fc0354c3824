use Rattle.std.proofs.Common.{◌≡◌, ◌∙◌, ◌∷◌, true, reverse, sym, arith}
use Rattle.std.proofs.lemmas.Grind.{common_steps}
use Rattle.std.proofs.lemmas.Result.{err_from_is_err_and}
use Rattle.log_model.specs.JoinSteps.{search_within}
use Rattle.log_verify.specs.JoinJudged.{is_of}
use Rattle.log_verify.proofs.Counting.{ask_none}
use Rattle.log_verify.proofs.JoinWays.{page_stops}
use Rattle.log_verify.proofs.join_walking.take_record.Goals as goal

pub returns-in_err-node-clause-cause : goal.returns-in_err-node-clause-cause
returns-in_err-node-clause-cause g c =
    let p = err_from_is_err_and c.from_residual.result c.from_residual.ensures.1 in
    let stack : reverse c.args.walk.now.stack.items ≡ c.in-Some.need ∷ reverse c.pop.new.self.items = grind (arith, common_steps, c.in-Some.ensures.items) in
    let of : is_of c.in-Some.need c.args.told.now ≡ true = sym c.is_of.ensures ∙ c.if-not-is_of.false in
    rw (p.1, p.2)
    (page_stops (search_within (g.R.M.Metric.space (g.R.Ruler.metric c.args.ruler.now)) c.args.walk.now.rho) (g.P.Pages.shelf c.args.left.now) (g.P.Pages.shelf c.opened_node.new.left)
    (g.Q.Pages.shelf c.args.right.now) (g.Q.Pages.shelf c.opened_node.new.right) c.args.walk.now.named.hits.items (reverse c.args.walk.now.stack.items) c.in-Some.need (reverse c.pop.new.self.items)
    c.args.told.now c.args.walk.now.taken c.in_err-node.field-0.0 stack of c.in_err-node.ensures.cause)

pub returns-then-not-is_of-clause-few_asked : goal.returns-then-not-is_of-clause-few_asked
returns-then-not-is_of-clause-few_asked g c = ask_none _ _ 1
