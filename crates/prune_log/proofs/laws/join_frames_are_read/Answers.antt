use Rattle.std.proofs.Common.{sym, ap, ◌∙◌, length, arith}
use Rattle.std.proofs.lemmas.List.Elements.{All-from_recursion, recursion_from_All}
use Rattle.log_model.specs.Grammar.{IsValidJoinLog}
use Rattle.prune_log.specs.Ranges.{JoinLogInRange}
use Rattle.prune_log.specs.Spelling.{join_log_bytes, frames_bytes}
use Rattle.prune_log.specs.Reading.{join_log_at, frames_at}
use Rattle.prune_log.proofs.Logs.{IsJoinLog, join_log_reader, each, each_both}
use Rattle.prune_log.proofs.Framing.{frames_take, frames_again}
use Rattle.prune_log.proofs.laws.join_frames_are_read.Goals as goal

pub returns : goal.returns
returns c bytes logs fits short = (
  λ read. (
      let took = frames_take IsJoinLog join_log_bytes join_log_at join_log_reader (length bytes) bytes logs fits (omega arith) read in
      record {
        valid = All-from_recursion IsValidJoinLog logs (each IsJoinLog IsValidJoinLog (λ log is. is.valid) logs took.1);
        in_range = All-from_recursion JoinLogInRange logs (each IsJoinLog JoinLogInRange (λ log is. is.in_range) logs took.1);
        spelled = took.0;
      }
      ),
  λ found. ap (frames_at join_log_at) (sym found.spelled)
      ∙ frames_again IsJoinLog join_log_bytes join_log_at join_log_reader logs (length (frames_bytes join_log_bytes logs))
      (each_both IsValidJoinLog JoinLogInRange IsJoinLog (λ log one two. record { valid = one; in_range = two }) logs (recursion_from_All IsValidJoinLog logs found.valid) (recursion_from_All JoinLogInRange logs found.in_range))
      (omega arith) (omega (arith, ap length found.spelled, short)),
)
