use Rattle.job_make.proofs.OldFiles.{second, unopened}
use Rattle.job_make.proofs.migrating.open_old.Goals as goal

pub returns-then-head-ne1-clause-refuses : goal.returns-then-head-ne1-clause-refuses
returns-then-head-ne1-clause-refuses g c =
    second (g.D.Disk.state c.args.disk.now) (g.D.Disk.state c.open.new.disk) (g.K.Sink.state c.args.out.now) (g.K.Sink.state c.end_with.new.out) c.end_with.result.0 c.in-Ok.head c.in-Ok.live c.in-Ok.ensures.ok c.in-Ok.ensures.head.version
    c.if-head-ne1.true c.end_with.ensures.status c.end_with.ensures.line

pub returns-in-Err-clause-refuses : goal.returns-in-Err-clause-refuses
returns-in-Err-clause-refuses g c =
    unopened (g.D.Disk.state c.args.disk.now) (g.D.Disk.state c.open.new.disk) (g.K.Sink.state c.args.out.now) (g.K.Sink.state c.end_unopened.new.out) c.end_unopened.result.0 c.in-Err.fault c.in-Err.ensures.fault c.end_unopened.ensures.disk
    c.end_unopened.ensures.index c.end_unopened.ensures.line c.end_unopened.ensures.statuses
