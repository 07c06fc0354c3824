use Rattle.std.proofs.Common.{sym, ap, ◌∙◌}
use Rattle.prune_log.specs.Spelling.{join_log_bytes}
use Rattle.prune_log.specs.Reading.{join_log_at, whole, fault_of}
use Rattle.prune_log.proofs.Whole.{whole_takes, whole_again, no_fault}
use Rattle.prune_log.proofs.Logs.{IsJoinLog, join_log_reader}
use Rattle.prune_log.proofs.laws.fault_is_no_join_log.Goals as goal

pub returns : goal.returns
returns c bytes fits = (
  λ none. (
      let read = no_fault (whole join_log_at bytes) none in
      let took = whole_takes IsJoinLog join_log_bytes join_log_at join_log_reader bytes read.0 fits read.1 in
      (read.0, record { valid = took.0.valid; in_range = took.0.in_range; spelled = took.1 })
      ),
  λ found. ap (λ b. fault_of (whole join_log_at b)) (sym found.1.spelled)
      ∙ ap fault_of (whole_again IsJoinLog join_log_bytes join_log_at join_log_reader found.0 (record { valid = found.1.valid; in_range = found.1.in_range })),
)
