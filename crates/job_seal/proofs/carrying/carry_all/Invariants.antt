use Rattle.std.proofs.Common.{◌≡◌, ◌+◌, ◌≤◌, length}
use Rattle.std.specs.Prelude.{All, IsTrue}
use Rattle.disk_model.specs.Disk.{IsUnchanged}
use Rattle.log_model.specs.Grammar.{IsValidLog}
use Rattle.job_seal.specs.Carries.{HasCarried, IsKeptOf}
use Rattle.job_seal.proofs.carrying.carry_all.Given as goal

-- the frames and lines so far are put, and the other logs are to come
abbrev pub invariant-loop-log : goal.invariant-loop-log
invariant-loop-log g l = record {
  same : IsUnchanged (g.D.Disk.state l.fn.index) (g.D.Disk.state l.index);
  agrees : IsKeptOf (g.D.Disk.state l.index) l.opened.0 l.opened.1 l.kept;
  valid : All IsValidLog l.log-iterator.rest.items;
  counted : l.number + length l.log-iterator.rest.items ≡ length l.fn.logs.items;
  puts : IsTrue (g.D.Disk.state l.fn.index).is_known → HasCarried (g.D.Disk.state l.fn.index).bytes l.opened.0 l.opened.1 l.fn.logs.items l.log-iterator.rest.items l.number l.accepted
      (g.L.Sink.state l.fn.log_out).written (g.L.Sink.state l.log_out).written (g.K.Sink.state l.fn.out).written (g.K.Sink.state l.out).written;
  later : (g.D.Disk.state l.fn.index).faults ≤ (g.D.Disk.state l.index).faults;
  out_later : (g.K.Sink.state l.fn.out).faults ≤ (g.K.Sink.state l.out).faults;
  log_later : (g.L.Sink.state l.fn.log_out).faults ≤ (g.L.Sink.state l.log_out).faults;
}
