use Rattle.std.proofs.Common.{length, ap, rules}
use Rattle.promote_split.proofs.Least.{row_more, square_more, item_next, counted_more}
use Rattle.promote_split.proofs.matrix.Matrix.of.Goals as goal

pub loop-centre-preserved : goal.loop-centre-preserved
loop-centre-preserved g c = record {
  metric = search rules;
  counted = counted_more c.loop-centre.centre-index (length c.args.entries.now) _ _ _ c.loop-centre.invariant.counted c.in_ok-push_row.ensures.counted;
  rows = row_more _ _ g.E.Entry.ball c.args.entries.now c.loop-centre.centre-index c.centre-item.result c.point.result.now c.loop-centre.distances.items _ _
      (item_next c.args.entries.now c.loop-centre.centre-index c.centre-item.result c.loop-centre-test.true c.centre-item.is)
      (ap g.R.M.Metric.space c.loop-centre.invariant.metric) c.point.ensures c.in_ok-push_row.ensures.row c.loop-centre.invariant.rows;
  square = square_more c.loop-centre.centre-index (length c.args.entries.now) (length c.loop-centre.distances.items) _ c.loop-centre.invariant.square c.in_ok-push_row.ensures.long;
  within = search rules;
}
