use Rattle.log_model.specs.Walk.{search_at}
use Rattle.range_search.proofs.Steps.{step}
use Rattle.range_search.proofs.searching.open_page.Goals as goal

pub returns-clause-opened : goal.returns-clause-opened
returns-clause-opened g c old used root way =
    step (search_at (g.R.M.Metric.space (g.R.Ruler.metric c.args.ruler.now)) c.args.probe.q.now c.args.probe.rho) old (g.P.Pages.shelf c.args.pages.now) (g.P.Pages.shelf c.node.new.self)
    used (g.R.Ruler.used c.args.ruler.now) (g.R.Ruler.used c.take_node.new.ruler) root c.args.need c.in_ok-node.node c.args.walk.now c.take_node.new.self
    c.in_ok-node.ensures.ok c.node.ensures.same c.node.ensures.asked c.node.ensures.reads (rw c.as_ref.ensures at c.in_ok-take_node.ensures.counted) (rw c.as_ref.ensures at c.in_ok-take_node.ensures.taken) way
