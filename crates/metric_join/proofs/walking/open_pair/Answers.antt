use Rattle.std.proofs.Common.{reverse}
use Rattle.log_model.specs.JoinSteps.{search_within}
use Rattle.metric_join.proofs.Pairs.{goes_on, lighter_now}
use Rattle.metric_join.proofs.walking.open_pair.Goals as goal

pub returns-clause-on : goal.returns-clause-on
returns-clause-on g c l r left1 right1 used1 before =
    let probe = c.new-probe.ensures in
    let left = c.in_ok-opening.ensures in
    rw (c.in_ok-take.ensures.records, c.in_ok-take.ensures.hits, c.in_ok-take.ensures.stack)
    (goes_on (search_within (g.R.M.Metric.space (g.R.Ruler.metric c.args.ruler.now)) c.args.walk.now.rho) l r left1 (g.P.Pages.shelf c.args.left.now) (g.P.Pages.shelf c.opened_node.new.left)
    right1 (g.Q.Pages.shelf c.args.right.now) (g.Q.Pages.shelf c.opened_node.new.right) used1 (g.R.Ruler.used c.args.ruler.now) (g.R.Ruler.used c.open_node.new.ruler)
    c.args.walk.now.records.items c.args.walk.now.hits.items c.args.waiting (reverse c.args.walk.now.stack.items) before c.in_ok-node.node c.opened_node.ensures.left_same c.opened_node.ensures.right_same
    c.in_ok-node.ensures.ok c.in_ok-opening.opening.marks.items c.in_ok-opening.opening.matches.hits.items c.in_ok-opening.opening.matches.needs.items (rw (probe.need, probe.node, probe.rho) at left.marks)
    (rw (probe.need, probe.node, probe.rho) at left.hits) (rw (probe.need, probe.node, probe.rho) at left.needs) left.counted)

pub returns-clause-lighter : goal.returns-clause-lighter
returns-clause-lighter g c =
    let probe = c.new-probe.ensures in
    rw c.in_ok-take.ensures.stack
    (lighter_now (search_within (g.R.M.Metric.space (g.R.Ruler.metric c.args.ruler.now)) c.args.walk.now.rho) (g.P.Pages.shelf c.args.left.now) (g.P.Pages.shelf c.opened_node.new.left)
    (g.Q.Pages.shelf c.args.right.now) (g.Q.Pages.shelf c.opened_node.new.right) c.args.waiting (reverse c.args.walk.now.stack.items) c.in_ok-node.node c.in_ok-node.ensures.ok
    c.in_ok-opening.opening.matches.needs.items (rw (probe.need, probe.node, probe.rho) at c.in_ok-opening.ensures.needs))
