use Rattle.std.proofs.Common.{◌≡◌, ◌≤◌, false, drop}
use Rattle.index_core.specs.Answers.{IsSoundOn}
use Rattle.index_core.specs.Index.{MayGoOn}
use Rattle.session_run.specs.Pinned.{AllGoThrough, AreKeptBy}
use Rattle.session_run.specs.Session.{Grew}
use Rattle.session_run.proofs.Runs.{HasDone}
use Rattle.session_run.proofs.running.session.Given as goal

-- the index goes on, and on a sound file the first commands are done
abbrev pub invariant-loop-command : goal.invariant-loop-command
invariant-loop-command g l = record {
  going : l.index.stopped ≡ false;
  stands : MayGoOn l.index (g.D.Disk.state l.disk);
  head : l.index.file.head ≡ l.fn.index.file.head;
  metric : l.index.file.metric ≡ l.fn.index.file.metric;
  numbers : l.cursors.next ≤ l.command-index;
  counted : l.acknowledged ≡ l.command-index;
  is_known : (g.D.Disk.state l.disk).is_known ≡ (g.D.Disk.state l.fn.disk).is_known;
  later : (g.D.Disk.state l.fn.disk).faults ≤ (g.D.Disk.state l.disk).faults;
  kept : AreKeptBy (g.M.Metric.space l.index.file.metric) l.index l.cursors;
  through : AllGoThrough l.index (g.D.Disk.state l.disk) l.cursors;
  grew : Grew (g.K.Sink.state l.fn.out) (g.K.Sink.state l.out);
  log_grew : Grew (g.T.Sink.state l.fn.log_out) (g.T.Sink.state l.log_out);
  out_later : (g.K.Sink.state l.fn.out).faults ≤ (g.K.Sink.state l.out).faults;
  log_later : (g.T.Sink.state l.fn.log_out).faults ≤ (g.T.Sink.state l.log_out).faults;
  done : IsSoundOn (g.M.Metric.space l.fn.index.file.metric) l.fn.index.file (g.D.Disk.state l.fn.disk) →
      HasDone (g.M.Metric.space l.fn.index.file.metric) l.show l.fn.index (g.D.Disk.state l.fn.disk) l.commands (g.K.Sink.state l.fn.out) (g.T.Sink.state l.fn.log_out)
      l.index l.cursors (g.D.Disk.state l.disk) (drop l.command-index l.commands) (g.K.Sink.state l.out) (g.T.Sink.state l.log_out) l.acknowledged;
}
