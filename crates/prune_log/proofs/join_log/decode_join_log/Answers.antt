use Rattle.std.proofs.Common.{◌≡◌, arith}
use Rattle.log_model.specs.Grammar.{IsValidJoinLog}
use Rattle.prune_log.specs.Ranges.{JoinLogInRange}
use Rattle.prune_log.specs.Spelling.{join_log_bytes}
use Rattle.prune_log.specs.Reading.{join_log_at}
use Rattle.prune_log.proofs.Whole.{gives_ok, gives_only, if_ok}
use Rattle.prune_log.proofs.Logs.{IsJoinLog, join_log_reader}
use Rattle.prune_log.proofs.join_log.decode_join_log.Goals as goal

pub returns-clause-ok : goal.returns-clause-ok
returns-clause-ok c =
    if_ok c.whole_join_log.result (λ log. IsJoinLog log × (join_log_bytes log ≡ c.args.bytes.now)) (λ log. join_log_bytes log ≡ c.args.bytes.now) (λ log both. both.1)
    (gives_ok IsJoinLog join_log_bytes join_log_at join_log_reader c.args.bytes.now c.whole_join_log.result (λ i. omega (arith, c.type_inv.bytes i)) c.whole_join_log.ensures)

pub returns-clause-valid : goal.returns-clause-valid
returns-clause-valid c =
    if_ok c.whole_join_log.result (λ log. IsJoinLog log × (join_log_bytes log ≡ c.args.bytes.now)) IsValidJoinLog (λ log both. both.0.valid)
    (gives_ok IsJoinLog join_log_bytes join_log_at join_log_reader c.args.bytes.now c.whole_join_log.result (λ i. omega (arith, c.type_inv.bytes i)) c.whole_join_log.ensures)

pub returns-clause-in_range : goal.returns-clause-in_range
returns-clause-in_range c =
    if_ok c.whole_join_log.result (λ log. IsJoinLog log × (join_log_bytes log ≡ c.args.bytes.now)) JoinLogInRange (λ log both. both.0.in_range)
    (gives_ok IsJoinLog join_log_bytes join_log_at join_log_reader c.args.bytes.now c.whole_join_log.result (λ i. omega (arith, c.type_inv.bytes i)) c.whole_join_log.ensures)

pub returns-clause-only : goal.returns-clause-only
returns-clause-only c log valid range is =
    gives_only IsJoinLog join_log_bytes join_log_at join_log_reader c.args.bytes.now c.whole_join_log.result log (record { valid = valid; in_range = range }) is c.whole_join_log.ensures
