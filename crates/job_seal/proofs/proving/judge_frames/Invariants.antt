use Rattle.std.proofs.Common.{◌+◌, ◌^◌, ◌≤◌}
use Rattle.job_seal.proofs.Frames.{Progress}
use Rattle.job_seal.proofs.proving.judge_frames.Given as goal

abbrev pub invariant-frames : goal.invariant-frames
invariant-frames g l = record {
  shown : Progress l.fn.root (g.S.Source.left l.fn.log_in) (g.S.Source.left l.log_in) l.room l.frame l.accepted (g.K.Sink.state l.fn.out).written (g.K.Sink.state l.out).written;
  counted : l.frame + l.room ≤ 2 ^ 30;
  input_later : g.S.Source.faults l.fn.log_in ≤ g.S.Source.faults l.log_in;
  later : (g.K.Sink.state l.fn.out).faults ≤ (g.K.Sink.state l.out).faults;
}

abbrev pub decreases-frames : goal.decreases-frames
decreases-frames g l = l.room
