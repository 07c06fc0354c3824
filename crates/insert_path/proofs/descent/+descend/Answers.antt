use Rattle.std.proofs.Common.{false, ◌-◌, ap, rules}
use Rattle.std.proofs.lemmas.Result.{err_from_is_err_and}
use Rattle.insert_path.specs.Descent.{above_of}
use Rattle.insert_path.proofs.Level.{cause_here, leaf_high, inner_other, fault_below, cause_below, level_above, read_near, small_descends, leaf_step, inner_step}
use Rattle.insert_path.proofs.descent.+descend.Goals as goal
use Rattle.page_store.specs.Numbers.{number_at}

pub returns-in_err-node-clause-cause : goal.returns-in_err-node-clause-cause
returns-in_err-node-clause-cause g t c =
    let p = err_from_is_err_and c.from_residual.result c.from_residual.ensures.1 in
    rw (p.1, p.2) (cause_here (g.R.M.Metric.space (g.R.Ruler.metric c.args.ruler.now)) c.args.task.now.object.point.now c.args.spot.now.level c.args.spot.now.page
    (g.P.Pages.shelf c.args.pages.now) (g.P.Pages.shelf c.own_node.new.pages) c.in_err-node.field-0.0 c.in_err-node.ensures.cause)

pub returns-then-spot-ne0-clause-cause : goal.returns-then-spot-ne0-clause-cause
returns-then-spot-ne0-clause-cause g t c = λ is_known.
    leaf_high (g.R.M.Metric.space (g.R.Ruler.metric c.args.ruler.now)) (g.P.Pages.shelf c.args.pages.now).read c.args.task.now.object.point.now c.args.spot.now.level c.args.spot.now.page c.in_ok-node.node c.in-Leaf.entries c.if-spot-ne0.true c.in-Leaf.is (c.in_ok-node.ensures.ok.told is_known)

pub returns-then-level-spot-clause-cause : goal.returns-then-level-spot-clause-cause
returns-then-level-spot-clause-cause g t c = λ is_known.
    inner_other (g.R.M.Metric.space (g.R.Ruler.metric c.args.ruler.now)) (g.P.Pages.shelf c.args.pages.now).read c.args.task.now.object.point.now c.args.spot.now.level c.args.spot.now.page c.in-Inner.level c.in_ok-node.node c.in-Inner.entries c.if-level-spot.true c.in-Inner.is (c.in_ok-node.ensures.ok.told is_known)

pub returns-in_err-grew-in-Inner-clause-cause : goal.returns-in_err-grew-in-Inner-clause-cause
returns-in_err-grew-in-Inner-clause-cause g t c =
    let p = err_from_is_err_and c.from_residual-in_err-grew-in-Inner.result c.from_residual-in_err-grew-in-Inner.ensures.1 in
    rw (p.1, p.2) (cause_below (g.P.Pages.shelf c.args.pages.now) (g.P.Pages.shelf c.own_node.new.pages) (g.P.Pages.shelf c.descend.new.pages) _ _ c.in_err-grew-in-Inner.field-0.0 c.own_node.ensures.same
    (λ is_known. fault_below (g.R.M.Metric.space (g.R.Ruler.metric c.args.ruler.now)) (g.R.M.Metric.space (g.R.Ruler.metric c.choose-place.new.ruler)) (g.P.Pages.shelf c.args.pages.now).read (g.P.Pages.shelf c.own_node.new.pages).read
    c.args.task.now.object.point.now c.args.spot.now.level (c.args.spot.now.level - 1) c.args.spot.now.page c.in-Inner.level c.in_ok-node.node c.in-Inner.entries c.in_ok-entries-in-Inner.entries.items c.deref.result.now
    c.choose-place.result c.index-child.result.now (ap g.R.M.Metric.space c.choose-place.ensures.metric) c.own_node.ensures.same.read
    (level_above (g.P.Pages.shelf c.args.pages.now).dim c.in-Inner.level c.args.spot.now.level c.in_ok-node.node c.in-Inner.entries c.in_ok-node.ensures.ok.valid c.in-Inner.is c.if-level-spot.false)
    c.if-level-spot.false c.in-Inner.is c.in_ok-entries-in-Inner.ensures
    c.deref.ensures.value c.choose-place.ensures.chosen c.choose-place.ensures.place c.index-child.ensures (c.in_ok-node.ensures.ok.told is_known))
    c.in_err-grew-in-Inner.ensures.cause)

pub back_at-requires-clause-near : goal.back_at-requires-clause-near
back_at-requires-clause-near g t c κs within =
    read_near (g.P.Pages.shelf c.args.pages.now).dim c.in-Inner.level c.in_ok-node.node c.in-Inner.entries _ c.in_ok-node.ensures.ok.valid c.in-Inner.is c.in_ok-entries-in-Inner.ensures

pub back_at-requires-clause-small : goal.back_at-requires-clause-small
back_at-requires-clause-small g t c κs within =
    small_descends _ (g.P.Pages.shelf c.own_node.new.pages) (c.args.spot.now.level - 1) c.index-child.result.now.child (above_of false c.as_slice.result.now) c.push.new.self.items c.args.written.now.nodes.items c.descend.new.written.left.items c.descend.new.written.nodes.items c.in_ok-grew-in-Inner.grew c.in_ok-grew-in-Inner.ensures.descends

pub returns-in_ok-at_leaf-in-Leaf-clause-descends : goal.returns-in_ok-at_leaf-in-Leaf-clause-descends
returns-in_ok-at_leaf-in-Leaf-clause-descends g t c =
    leaf_step c.args.task.now.policy c.args.task.now.bounds (number_at c.args.task.now.numbering.numbers.now c.args.task.now.numbering.first) (record { id = c.args.task.now.object.id; tag = c.args.task.now.object.tag; point = c.args.task.now.object.point.now })
    (g.R.M.Metric.space (g.R.Ruler.metric c.args.ruler.now)) (g.P.Pages.shelf c.args.pages.now) c.args.spot.now.level c.args.spot.now.page (above_of c.args.spot.now.root c.args.spot.now.above.now)
    c.in_ok-node.node c.in-Leaf.entries c.in_ok-entries-in-Leaf.entries.items c.args.written.now.left.items _ c.args.written.now.nodes.items _ _
    c.if-spot-ne0.false c.in_ok-node.ensures.ok c.in-Leaf.is c.in_ok-entries-in-Leaf.ensures (search rules) c.in_ok-at_leaf-in-Leaf.ensures.staged c.in_ok-at_leaf-in-Leaf.ensures.within

pub returns-in_ok-back_at-in-Inner-clause-descends : goal.returns-in_ok-back_at-in-Inner-clause-descends
returns-in_ok-back_at-in-Inner-clause-descends g t c =
    inner_step c.args.task.now.policy c.args.task.now.bounds (number_at c.args.task.now.numbering.numbers.now c.args.task.now.numbering.first) (record { id = c.args.task.now.object.id; tag = c.args.task.now.object.tag; point = c.args.task.now.object.point.now })
    (g.R.M.Metric.space (g.R.Ruler.metric c.args.ruler.now)) (g.R.M.Metric.space (g.R.Ruler.metric c.choose-place.new.ruler)) (g.R.M.Metric.space (g.R.Ruler.metric c.descend.new.ruler))
    (g.P.Pages.shelf c.args.pages.now) (g.P.Pages.shelf c.own_node.new.pages)
    c.args.spot.now.level (c.args.spot.now.level - 1) c.args.spot.now.page c.in-Inner.level (above_of c.args.spot.now.root c.args.spot.now.above.now)
    c.in_ok-node.node c.in-Inner.entries c.in_ok-entries-in-Inner.entries.items c.deref.result.now c.choose-place.result c.index-child.result.now
    c.args.written.now.left.items c.push.new.self.items c.descend.new.written.left.items c.args.written.now.nodes.items c.descend.new.written.nodes.items _ c.in_ok-grew-in-Inner.grew _
    (ap g.R.M.Metric.space c.choose-place.ensures.metric) (ap g.R.M.Metric.space c.descend.ensures.metric) c.own_node.ensures.same
    (level_above (g.P.Pages.shelf c.args.pages.now).dim c.in-Inner.level c.args.spot.now.level c.in_ok-node.node c.in-Inner.entries c.in_ok-node.ensures.ok.valid c.in-Inner.is c.if-level-spot.false)
    c.if-level-spot.false
    c.in_ok-node.ensures.ok c.in-Inner.is c.in_ok-entries-in-Inner.ensures c.deref.ensures.value c.choose-place.ensures.chosen c.choose-place.ensures.place c.index-child.ensures (search rules)
    c.as_slice.result.now c.as_slice.ensures c.in_ok-grew-in-Inner.ensures.descends c.in_ok-back_at-in-Inner.ensures.staged c.in_ok-back_at-in-Inner.ensures.near
