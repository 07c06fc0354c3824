use Rattle.std.proofs.Common.{◌≡◌}
use Rattle.job_make.proofs.Taken.{IsTaking}
use Rattle.job_make.proofs.ordering.take_in_order.Given as goal

abbrev pub invariant-loop-id : goal.invariant-loop-id
invariant-loop-id g l = record {
  dimension : l.objects.rows.dimension ≡ (g.M.Metric.space l.metric).dimension;
  taking : IsTaking (g.M.Metric.space l.metric) l.entries l.id l.objects.rows.points l.objects.tags.items;
}
