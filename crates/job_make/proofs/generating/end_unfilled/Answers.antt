use Rattle.job_make.proofs.Ended.{by_changed, by_disk, by_memory, by_unopened}
use Rattle.job_make.proofs.generating.end_unfilled.Goals as goal

pub returns-in-Unopened-clause-ends : goal.returns-in-Unopened-clause-ends
returns-in-Unopened-clause-ends g c =
    rw c.in-Unopened.is (by_unopened (g.K.Sink.state c.args.out.now) (g.K.Sink.state c.end_unopened.new.out) c.end_unopened.result.0 c.in-Unopened.fault c.end_unopened.ensures.disk c.end_unopened.ensures.index
    c.end_unopened.ensures.line c.end_unopened.ensures.statuses)

pub returns-in-Changed-clause-ends : goal.returns-in-Changed-clause-ends
returns-in-Changed-clause-ends g c =
    rw c.in-Changed.is (by_changed (g.K.Sink.state c.args.out.now) (g.K.Sink.state c.end_with.new.out) c.end_with.result.0 c.end_with.ensures.status c.end_with.ensures.line)

pub returns-in-Disk-clause-ends : goal.returns-in-Disk-clause-ends
returns-in-Disk-clause-ends g c =
    rw c.in-Disk.is (by_disk (g.K.Sink.state c.args.out.now) (g.K.Sink.state c.end_with-in-Disk.new.out) c.end_with-in-Disk.result.0 c.end_with-in-Disk.ensures.status c.end_with-in-Disk.ensures.line)

pub returns-in-Memory-clause-ends : goal.returns-in-Memory-clause-ends
returns-in-Memory-clause-ends g c =
    rw c.in-Memory.is (by_memory (g.K.Sink.state c.args.out.now) (g.K.Sink.state c.end_with-in-Memory.new.out) c.end_with-in-Memory.result.0 c.end_with-in-Memory.ensures.status c.end_with-in-Memory.ensures.line)
