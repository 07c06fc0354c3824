use Rattle.job_make.proofs.Migrated.{filled_fills, unfilled_fills}
use Rattle.job_make.proofs.migrating.move_objects.Goals as goal

pub returns-clause-fills : goal.returns-clause-fills
returns-clause-fills g c =
    filled_fills c.renewed.result c.args.objects.now.rows.points c.args.objects.now.tags.items (g.D.Disk.state c.args.index.now) (g.D.Disk.state c.make_filled-made.new.disk) (g.K.Sink.state c.args.out.now) (g.K.Sink.state c.end_migrated.new.out)
    c.end_migrated.result.0 c.args.head.now c.renewed.ensures.head c.in-Ok.index c.in-Ok.ensures.head c.in-Ok.ensures.filled c.in-Ok.ensures.stands c.in-Ok.ensures.going c.in-Ok.ensures.empty c.in-Ok.ensures.since
    c.make_filled-made.ensures.later c.make_filled-made.ensures.is_known c.len.result c.len.ensures c.end_migrated.ensures.statuses (rw c.in-Ok.ensures.silent at c.end_migrated.ensures.done) (rw c.in-Ok.ensures.silent at c.end_migrated.ensures.part)
    (rw c.in-Ok.ensures.silent at c.end_migrated.ensures.memory)

pub returns-in-Err-clause-fills : goal.returns-in-Err-clause-fills
returns-in-Err-clause-fills g c =
    unfilled_fills c.renewed.result c.args.head.now c.args.objects.now.rows.points c.args.objects.now.tags.items (g.D.Disk.state c.args.index.now) (g.D.Disk.state c.make_filled-made.new.disk) (g.K.Sink.state c.args.out.now)
    (g.K.Sink.state c.make_filled-made.new.out) c.in-Err.status.0 c.renewed.ensures.head c.in-Err.ensures.unfilled c.in-Err.ensures.statuses
