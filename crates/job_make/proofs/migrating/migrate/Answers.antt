use Rattle.std.proofs.Common.{refl}
use Rattle.job_make.proofs.Migrated.{moved, stays}
use Rattle.job_make.proofs.migrating.migrate.Goals as goal

pub returns-in-Err-clause-migrates : goal.returns-in-Err-clause-migrates
returns-in-Err-clause-migrates g c =
    stays (g.D.Disk.state c.args.index.now) (g.D.Disk.state c.want_empty.new.disk) (g.E.Disk.state c.args.other.now) (g.E.Disk.state c.args.other.now) (g.K.Sink.state c.args.out.now) (g.K.Sink.state c.want_empty.new.out) c.in-Err.status.0
    c.want_empty.ensures.same c.in-Err.ensures.refuses refl

pub returns-in-Ok-clause-migrates : goal.returns-in-Ok-clause-migrates
returns-in-Ok-clause-migrates g c =
    moved (g.D.Disk.state c.args.index.now) (g.D.Disk.state c.move_objects.new.index) (g.E.Disk.state c.args.other.now) (g.E.Disk.state c.read_old.new.disk) (g.K.Sink.state c.args.out.now) (g.K.Sink.state c.move_objects.new.out)
    c.move_objects.result.0 c.read_old.ensures.same c.in_default.ensures.empty (g.D.Disk.state c.want_empty.new.disk) c.in-Ok.head c.in-Ok.objects.rows.points c.in-Ok.objects.tags.items c.in-Ok.ensures.is
    c.want_empty.ensures.same c.want_empty.ensures.later c.want_empty.ensures.reads (rw (c.in-Ok.ensures.silent, c.in_default.ensures.silent) at c.move_objects.ensures.fills) c.move_objects.ensures.statuses
