use Rattle.std.proofs.Common.{sym, ap, ◌∙◌}
use Rattle.prune_log.specs.Spelling.{join_log_bytes}
use Rattle.prune_log.specs.Reading.{join_log_at, whole}
use Rattle.prune_log.proofs.Exact.{ok_is}
use Rattle.prune_log.proofs.Whole.{whole_again}
use Rattle.prune_log.proofs.Logs.{IsJoinLog, join_log_reader}
use Rattle.prune_log.proofs.laws.one_join_log.Goals as goal

pub returns : goal.returns
returns c bytes log other one two =
    ok_is log other
    (sym (whole_again IsJoinLog join_log_bytes join_log_at join_log_reader log (record { valid = one.valid; in_range = one.in_range }))
    ∙ ap (whole join_log_at) (one.spelled ∙ sym two.spelled)
    ∙ whole_again IsJoinLog join_log_bytes join_log_at join_log_reader other (record { valid = two.valid; in_range = two.in_range }))
