use Rattle.promote_split.proofs.Costs.{cost_covers}
use Rattle.promote_split.proofs.promoting.is_dear.Goals as goal

pub returns-then-cap-cost-2 : goal.returns-then-cap-cost-2
returns-then-cap-cost-2 c = λ is promote split least.
    cost_covers c.args.matrix.now promote split least c.args.pair.a c.args.pair.b c.loop-i.i c.args.cost c.requires.a c.requires.b c.requires.differ c.requires.two
    (rw c.len-i-end.ensures at c.loop-i-test.true)
    (rw (c.cap.ensures, c.row-first.ensures.row, c.radii-radii.ensures.radii) at c.if-cap-cost.true)
    (rw (c.cap-then-cap-cost.ensures, c.row-second.ensures.row, c.radii-radii.ensures.radii) at c.if-cap-cost-2.true)
