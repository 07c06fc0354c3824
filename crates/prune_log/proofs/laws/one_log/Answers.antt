use Rattle.std.proofs.Common.{sym, ap, ◌∙◌}
use Rattle.prune_log.specs.Spelling.{log_bytes}
use Rattle.prune_log.specs.Reading.{log_at, whole}
use Rattle.prune_log.proofs.Exact.{ok_is}
use Rattle.prune_log.proofs.Whole.{whole_again}
use Rattle.prune_log.proofs.Logs.{IsLog, log_reader}
use Rattle.prune_log.proofs.laws.one_log.Goals as goal

pub returns : goal.returns
returns c bytes log other one two =
    ok_is log other
    (sym (whole_again IsLog log_bytes log_at log_reader log (record { valid = one.valid; in_range = one.in_range }))
    ∙ ap (whole log_at) (one.spelled ∙ sym two.spelled)
    ∙ whole_again IsLog log_bytes log_at log_reader other (record { valid = two.valid; in_range = two.in_range }))
