use Rattle.std.proofs.Common.{◌≤◌, take}
use Rattle.batch_run.proofs.jobs.Puts.{SoFar}
use Rattle.batch_run.proofs.jobs.putting.put_all.Given as goal

abbrev pub invariant-loop-one : goal.invariant-loop-one
invariant-loop-one g l = record {
  so_far : SoFar (take l.one-index l.prepared) (g.K.Sink.state l.fn.out) (g.K.Sink.state l.out) (g.T.Sink.state l.fn.log_out) (g.T.Sink.state l.log_out);
  later : (g.K.Sink.state l.fn.out).faults ≤ (g.K.Sink.state l.out).faults;
  log_later : (g.T.Sink.state l.fn.log_out).faults ≤ (g.T.Sink.state l.log_out).faults;
}
