use Rattle.std.proofs.Common.{ap, arith}
use Rattle.std.specs.Prelude.{IsTrue}
use Rattle.metric_mix.specs.MixKinds.{mix_dim, mix_kind}
use Rattle.metric_mix.specs.MixSpaces.{mix_space}
use Rattle.index_core.specs.Answers.{IsSoundOn}
use Rattle.job_make.specs.Filling.{IsFilled}
use Rattle.job_make.specs.Jobs.{IsSummary, ids_of, points_of}
use Rattle.job_make.proofs.Filled.{limit_by_head}
use Rattle.job_make.proofs.RowsMore.{rows_fit, rows_long}
use Rattle.job_make.proofs.Generated.{is_full, is_sound, is_summary, leaves_only, refused, stopped, written}
use Rattle.job_make.proofs.generating.generate_index.Goals as goal

pub make_filled-made-requires-clause-is_point : goal.make_filled-made-requires-clause-is_point
make_filled-made-requires-clause-is_point g c =
    rows_fit c.vectors_fit.ensures c.args.asked.now.head c.requires.valid c.requires.vectors c.args.asked.now.seed c.args.asked.now.count c.in-Ok.objects.rows.points (ap (λ r. r.points) c.in-Ok.ensures.rows)

pub make_filled-made-requires-clause-few : goal.make_filled-made-requires-clause-few
make_filled-made-requires-clause-few g c =
    let long = rows_long c.args.asked.now.seed c.args.asked.now.head.dim c.args.asked.now.count c.in-Ok.objects.rows.points (ap (λ r. r.points) c.in-Ok.ensures.rows) in
    let few = c.requires.few in omega (arith, long, few)

pub returns-in-Err-clause-generates : goal.returns-in-Err-clause-generates
returns-in-Err-clause-generates g c =
    refused c.args.asked.now.head (points_of c.args.asked.now) (ids_of c.args.asked.now) (IsSummary c.args.asked.now) (g.D.Disk.state c.args.disk.now) (g.K.Sink.state c.args.out.now) (g.K.Sink.state c.make_filled-made.new.out)
    c.in-Err.status.0 (g.D.Disk.state c.make_filled-made.new.disk) (rw (ap (λ r. r.points) c.in-Ok.ensures.rows, c.in-Ok.ensures.tags) at c.in-Err.ensures.unfilled) c.in-Err.ensures.statuses

pub summary_of-requires-clause-some : goal.summary_of-requires-clause-some
summary_of-requires-clause-some g c = λ κs within.
    let long = rows_long c.args.asked.now.seed c.args.asked.now.head.dim c.args.asked.now.count c.in-Ok.objects.rows.points (ap (λ r. r.points) c.in-Ok.ensures.rows) in
    let some = c.requires.some in omega (arith, long, some)

pub summary_of-requires-clause-few : goal.summary_of-requires-clause-few
summary_of-requires-clause-few g c = λ κs within.
    let long = rows_long c.args.asked.now.seed c.args.asked.now.head.dim c.args.asked.now.count c.in-Ok.objects.rows.points (ap (λ r. r.points) c.in-Ok.ensures.rows) in
    let few = c.requires.few in let lim = limit_by_head c.args.asked.now.head.limit c.requires.valid.limit in omega (arith, long, few, lim)

pub summary_of-requires-clause-is_point : goal.summary_of-requires-clause-is_point
summary_of-requires-clause-is_point g c = λ κs within.
    rw (c.in-Ok-made.ensures.kind, c.in-Ok-made.ensures.dim)
    (rows_fit c.vectors_fit.ensures c.args.asked.now.head c.requires.valid c.requires.vectors c.args.asked.now.seed c.args.asked.now.count c.in-Ok.objects.rows.points (ap (λ r. r.points) c.in-Ok.ensures.rows))

pub returns-in-Ok-summary_of-clause-generates : goal.returns-in-Ok-summary_of-clause-generates
returns-in-Ok-summary_of-clause-generates g c =
    let points_are = ap (λ r. r.points) c.in-Ok.ensures.rows in
    let filled : IsTrue (g.D.Disk.state c.args.disk.now).is_known → IsFilled c.args.asked.now.head (points_of c.args.asked.now) (ids_of c.args.asked.now) (g.D.Disk.state c.make_filled-made.new.disk) c.in-Ok-made.index =
    λ is_known. (rw (points_are, c.in-Ok.ensures.tags) at (c.in-Ok-made.ensures.filled is_known)) in
    written c.args.asked.now.head (points_of c.args.asked.now) (ids_of c.args.asked.now) (IsSummary c.args.asked.now) (g.D.Disk.state c.args.disk.now) (g.K.Sink.state c.args.out.now) (g.K.Sink.state c.put_line.new.out)
    c.put_line.result.0 (g.D.Disk.state c.make_filled-made.new.disk) (g.D.Disk.state c.summary_of.new.disk) c.in-Ok-made.index.file c.summary_of.new.index.file c.summary_of.ensures.reads c.make_filled-made.ensures.later
    c.make_filled-made.ensures.is_known (λ is_known. (rw (points_are, c.in-Ok.ensures.tags) at (c.in-Ok-made.ensures.since is_known))) c.in-Ok-summary_of.text.items c.put_line.ensures.statuses
    (λ zero. (rw (c.in-Ok-made.ensures.silent, c.deref.ensures.value) at (c.put_line.ensures.done zero))) (λ four. (rw (c.in-Ok-made.ensures.silent, c.deref.ensures.value) at (c.put_line.ensures.part four)))
    (λ is_known. (
      c.in-Ok-made.ensures.empty is_known,
      is_full c.args.asked.now.head c.requires.version (points_of c.args.asked.now) (ids_of c.args.asked.now) (g.D.Disk.state c.make_filled-made.new.disk) (g.D.Disk.state c.summary_of.new.disk) c.in-Ok-made.index c.summary_of.new.index
          c.in-Ok-made.ensures.head (filled is_known) c.in-Ok-made.ensures.stands c.in-Ok-made.ensures.going c.summary_of.ensures.reads,
      leaves_only c.args.asked.now.head c.requires.version (points_of c.args.asked.now) (ids_of c.args.asked.now) (g.D.Disk.state c.make_filled-made.new.disk) (g.D.Disk.state c.summary_of.new.disk) c.in-Ok-made.index c.summary_of.new.index
          c.in-Ok-made.ensures.head (filled is_known) c.in-Ok-made.ensures.stands c.in-Ok-made.ensures.going c.summary_of.ensures.reads,
    ))
    (λ is_known. is_summary c.args.asked.now c.requires.version (g.D.Disk.state c.make_filled-made.new.disk) (g.D.Disk.state c.summary_of.new.disk) c.in-Ok-made.index c.summary_of.new.index c.in-Ok-made.ensures.head
    c.in-Ok-made.ensures.kind c.in-Ok-made.ensures.dim (filled is_known) c.in-Ok-made.ensures.stands c.in-Ok-made.ensures.going c.summary_of.ensures.reads c.in-Ok.objects.rows.points points_are c.in-Ok-summary_of.text.items
    c.in-Ok-summary_of.ensures.text)

pub returns-clause-generates : goal.returns-clause-generates
returns-clause-generates g c =
    let points_are = ap (λ r. r.points) c.in-Ok.ensures.rows in
    let filled : IsTrue (g.D.Disk.state c.args.disk.now).is_known → IsFilled c.args.asked.now.head (points_of c.args.asked.now) (ids_of c.args.asked.now) (g.D.Disk.state c.make_filled-made.new.disk) c.in-Ok-made.index =
    λ is_known. (rw (points_are, c.in-Ok.ensures.tags) at (c.in-Ok-made.ensures.filled is_known)) in
    stopped c.args.asked.now.head (points_of c.args.asked.now) (ids_of c.args.asked.now) (IsSummary c.args.asked.now) (g.D.Disk.state c.args.disk.now) (g.K.Sink.state c.args.out.now) (g.K.Sink.state c.end_at_page.new.out)
    c.end_at_page.result.0 (g.D.Disk.state c.make_filled-made.new.disk) (g.D.Disk.state c.summary_of.new.disk) c.in-Ok-made.index.file c.summary_of.new.index.file c.summary_of.ensures.reads c.make_filled-made.ensures.later
    c.make_filled-made.ensures.is_known (λ is_known. (rw (points_are, c.in-Ok.ensures.tags) at (c.in-Ok-made.ensures.since is_known)))
    (IsSoundOn (mix_space (mix_kind c.in-Ok-made.index.file.metric) (mix_dim c.in-Ok-made.index.file.metric)) c.in-Ok-made.index.file (g.D.Disk.state c.make_filled-made.new.disk)) c.in-Err-summary_of.fault
    (λ is_known. is_sound c.args.asked.now.head (points_of c.args.asked.now) (ids_of c.args.asked.now) (g.D.Disk.state c.make_filled-made.new.disk) c.in-Ok-made.index c.in-Ok-made.ensures.kind c.in-Ok-made.ensures.dim (filled is_known))
    c.in-Err-summary_of.ensures.cause (rw c.in-Ok-made.ensures.silent at c.end_at_page.ensures.disk) (rw c.in-Ok-made.ensures.silent at c.end_at_page.ensures.memory) (rw c.in-Ok-made.ensures.silent at c.end_at_page.ensures.damaged)
    c.end_at_page.ensures.statuses
