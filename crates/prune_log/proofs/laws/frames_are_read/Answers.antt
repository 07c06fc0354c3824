use Rattle.std.proofs.Common.{sym, ap, ◌∙◌, length, arith}
use Rattle.std.proofs.lemmas.List.Elements.{All-from_recursion, recursion_from_All}
use Rattle.log_model.specs.Grammar.{IsValidLog}
use Rattle.prune_log.specs.Ranges.{LogInRange}
use Rattle.prune_log.specs.Spelling.{log_bytes, frames_bytes}
use Rattle.prune_log.specs.Reading.{log_at, frames_at}
use Rattle.prune_log.proofs.Logs.{IsLog, log_reader, each, each_both}
use Rattle.prune_log.proofs.Framing.{frames_take, frames_again}
use Rattle.prune_log.proofs.laws.frames_are_read.Goals as goal

pub returns : goal.returns
returns c bytes logs fits short = (
  λ read. (
      let took = frames_take IsLog log_bytes log_at log_reader (length bytes) bytes logs fits (omega arith) read in
      record {
        valid = All-from_recursion IsValidLog logs (each IsLog IsValidLog (λ log is. is.valid) logs took.1);
        in_range = All-from_recursion LogInRange logs (each IsLog LogInRange (λ log is. is.in_range) logs took.1);
        spelled = took.0;
      }
      ),
  λ found. ap (frames_at log_at) (sym found.spelled)
      ∙ frames_again IsLog log_bytes log_at log_reader logs (length (frames_bytes log_bytes logs))
      (each_both IsValidLog LogInRange IsLog (λ log one two. record { valid = one; in_range = two }) logs (recursion_from_All IsValidLog logs found.valid) (recursion_from_All LogInRange logs found.in_range))
      (omega arith) (omega (arith, ap length found.spelled, short)),
)
