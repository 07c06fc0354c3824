use Rattle.std.proofs.Common.{ap, arith, ◌∙◌}
use Rattle.job_make.proofs.Taken.{begins, ends, goes_on, is_next, with_point}
use Rattle.job_make.proofs.ordering.take_in_order.Goals as goal

pub loop-id-init : goal.loop-id-init
loop-id-init g c = record {
  dimension = ap (λ r. r.dimension) c.new.ensures ∙ c.dimension.ensures;
  taking = rw (ap (λ r. r.points) c.new.ensures, c.new-2.ensures.items) (begins (g.M.Metric.space c.args.metric) c.args.entries.now);
}

pub returns-then-not-is_next-clause-cause : goal.returns-then-not-is_next-clause-cause
returns-then-not-is_next-clause-cause g c = λ numbered is_point.
    let is = is_next (g.M.Metric.space c.args.metric) c.args.entries.now c.loop-id.id c.loop-id.objects.rows.points c.loop-id.objects.tags.items c.loop-id.invariant.taking c.index-entries-id.result c.loop-id-test.true c.index-entries-id.is numbered is_point in
    absurd (let yes = c.is_next.ensures.no is.0 is.1 in cc)

pub loop-id-preserved : goal.loop-id-preserved
loop-id-preserved g c =
    let next = c.is_next.ensures.yes c.if-not-is_next.false in
    let grown = with_point c.loop-id.objects.rows c.put_last.new.objects.rows c.index-entries-id.result.point c.in-Ok.ensures.rows in
    record {
      dimension = grown.0 ∙ c.loop-id.invariant.dimension;
      taking = goes_on (g.M.Metric.space c.args.metric) c.args.entries.now c.loop-id.id c.loop-id.objects.rows.points c.loop-id.objects.tags.items c.loop-id.invariant.taking c.index-entries-id.result c.loop-id-test.true c.index-entries-id.is
          c.put_last.new.objects.rows.points c.put_last.new.objects.tags.items next.0 next.1 grown.1 c.in-Ok.ensures.tags;
    }

pub returns-clause-points : goal.returns-clause-points
returns-clause-points g c =
    (ends (g.M.Metric.space c.args.metric) c.args.entries.now c.loop-id.id c.loop-id.objects.rows.points c.loop-id.objects.tags.items c.loop-id.invariant.taking (omega (arith, c.loop-id-test.false))).0

pub returns-clause-tags : goal.returns-clause-tags
returns-clause-tags g c =
    (ends (g.M.Metric.space c.args.metric) c.args.entries.now c.loop-id.id c.loop-id.objects.rows.points c.loop-id.objects.tags.items c.loop-id.invariant.taking (omega (arith, c.loop-id-test.false))).1

pub returns-clause-numbered : goal.returns-clause-numbered
returns-clause-numbered g c =
    (ends (g.M.Metric.space c.args.metric) c.args.entries.now c.loop-id.id c.loop-id.objects.rows.points c.loop-id.objects.tags.items c.loop-id.invariant.taking (omega (arith, c.loop-id-test.false))).2

pub returns-clause-is_point : goal.returns-clause-is_point
returns-clause-is_point g c =
    (ends (g.M.Metric.space c.args.metric) c.args.entries.now c.loop-id.id c.loop-id.objects.rows.points c.loop-id.objects.tags.items c.loop-id.invariant.taking (omega (arith, c.loop-id-test.false))).3
