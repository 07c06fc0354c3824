use Rattle.job_make.proofs.OldFiles.{rejected}
use Rattle.job_make.proofs.migrating.read_old.Goals as goal

pub returns-in-Err-clause-refuses : goal.returns-in-Err-clause-refuses
returns-in-Err-clause-refuses g c =
    rejected (g.D.Disk.state c.args.disk.now) (g.D.Disk.state c.open_old.new.disk) c.in_ok-head.head c.in_ok-head.live c.in_ok-head.ensures.opens c.in_ok-head.ensures.version c.in_ok-head.ensures.same (g.D.Disk.state c.audited_objects.new.disk)
    (g.K.Sink.state c.args.out.now) (g.K.Sink.state c.end_rejected.new.out) c.end_rejected.result.0 c.in-Err.fault c.in_ok-head.ensures.later c.in-Err.ensures.fault
    (rw c.in_ok-head.ensures.silent at c.end_rejected.ensures.rejected) (rw c.in_ok-head.ensures.silent at c.end_rejected.ensures.part) c.end_rejected.ensures.kind (rw c.in_ok-head.ensures.silent at c.end_rejected.ensures.disk)
    (rw c.in_ok-head.ensures.silent at c.end_rejected.ensures.memory) c.end_rejected.ensures.statuses
