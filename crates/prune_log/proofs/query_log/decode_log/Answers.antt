use Rattle.std.proofs.Common.{◌≡◌, arith}
use Rattle.log_model.specs.Grammar.{IsValidLog}
use Rattle.prune_log.specs.Ranges.{LogInRange}
use Rattle.prune_log.specs.Spelling.{log_bytes}
use Rattle.prune_log.specs.Reading.{log_at}
use Rattle.prune_log.proofs.Whole.{gives_ok, gives_only, if_ok}
use Rattle.prune_log.proofs.Logs.{IsLog, log_reader}
use Rattle.prune_log.proofs.query_log.decode_log.Goals as goal

pub returns-clause-ok : goal.returns-clause-ok
returns-clause-ok c =
    if_ok c.whole_log.result (λ log. IsLog log × (log_bytes log ≡ c.args.bytes.now)) (λ log. log_bytes log ≡ c.args.bytes.now) (λ log both. both.1)
    (gives_ok IsLog log_bytes log_at log_reader c.args.bytes.now c.whole_log.result (λ i. omega (arith, c.type_inv.bytes i)) c.whole_log.ensures)

pub returns-clause-valid : goal.returns-clause-valid
returns-clause-valid c =
    if_ok c.whole_log.result (λ log. IsLog log × (log_bytes log ≡ c.args.bytes.now)) IsValidLog (λ log both. both.0.valid)
    (gives_ok IsLog log_bytes log_at log_reader c.args.bytes.now c.whole_log.result (λ i. omega (arith, c.type_inv.bytes i)) c.whole_log.ensures)

pub returns-clause-in_range : goal.returns-clause-in_range
returns-clause-in_range c =
    if_ok c.whole_log.result (λ log. IsLog log × (log_bytes log ≡ c.args.bytes.now)) LogInRange (λ log both. both.0.in_range)
    (gives_ok IsLog log_bytes log_at log_reader c.args.bytes.now c.whole_log.result (λ i. omega (arith, c.type_inv.bytes i)) c.whole_log.ensures)

pub returns-clause-only : goal.returns-clause-only
returns-clause-only c log valid range is =
    gives_only IsLog log_bytes log_at log_reader c.args.bytes.now c.whole_log.result log (record { valid = valid; in_range = range }) is c.whole_log.ensures
