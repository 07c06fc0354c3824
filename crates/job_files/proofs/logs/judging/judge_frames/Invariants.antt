use Rattle.std.proofs.Common.{◌≡◌, ◌+◌, ◌≤◌, ◌&&◌, length}
use Rattle.std.specs.Prelude.{All, sum_by}
use Rattle.job_files.specs.Logs.JobReports.{frame_texts, are_sound}
use Rattle.job_files.proofs.logs.Puts.{HasPut}
use Rattle.job_files.proofs.logs.judging.judge_frames.Given as goal

-- the texts so far are put, and the others are those of the other logs
abbrev pub invariant-loop-log : goal.invariant-loop-log
invariant-loop-log g l = record {
  is_known : g.C.Checker.is_known l.fn.checker → g.C.Checker.is_known l.checker;
  judges : g.C.Checker.judges l.checker ≡ g.C.Checker.judges l.fn.checker;
  keeps : g.C.Checker.keeps l.fn.checker l.checker;
  few : g.C.Checker.read_count l.checker + sum_by g.C.Checker.most_reads l.log-iterator.rest.items
      ≤ g.C.Checker.read_count l.fn.checker + sum_by g.C.Checker.most_reads l.fn.logs.items;
  valid : All g.C.Checker.is_valid l.log-iterator.rest.items;
  counted : l.frame + length l.log-iterator.rest.items ≡ length l.fn.logs.items;
  puts : g.C.Checker.is_known l.fn.checker → HasPut
      (frame_texts g.C.Checker.words l.report (g.C.Checker.judges l.fn.checker) 0 l.fn.logs.items)
      (frame_texts g.C.Checker.words l.report (g.C.Checker.judges l.fn.checker) l.frame l.log-iterator.rest.items)
      (g.K.Sink.state l.fn.out).written (g.K.Sink.state l.out).written;
  sound : g.C.Checker.is_known l.fn.checker →
      are_sound (g.C.Checker.judges l.fn.checker) l.fn.logs.items ≡ (l.sound && are_sound (g.C.Checker.judges l.fn.checker) l.log-iterator.rest.items);
  later : (g.K.Sink.state l.fn.out).faults ≤ (g.K.Sink.state l.out).faults;
}
