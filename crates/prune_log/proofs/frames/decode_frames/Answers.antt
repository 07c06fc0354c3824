use Rattle.std.proofs.Common.{◌≡◌, arith}
use Rattle.std.specs.Prelude.{All}
use Rattle.std.specs.List.{AllByRecursion}
use Rattle.std.proofs.lemmas.List.Elements.{All-from_recursion, recursion_from_All}
use Rattle.log_model.specs.Grammar.{IsValidLog}
use Rattle.prune_log.specs.Ranges.{LogInRange}
use Rattle.prune_log.specs.Spelling.{log_bytes, frames_bytes}
use Rattle.prune_log.specs.Reading.{log_at}
use Rattle.prune_log.proofs.Whole.{if_ok}
use Rattle.prune_log.proofs.Logs.{IsLog, log_reader, each, each_both}
use Rattle.prune_log.proofs.Framing.{frames_ok, frames_only}
use Rattle.prune_log.proofs.frames.decode_frames.Goals as goal

pub returns-clause-ok : goal.returns-clause-ok
returns-clause-ok c =
    if_ok c.frames.result (λ v. (frames_bytes log_bytes v.items ≡ c.args.bytes.now) × AllByRecursion IsLog v.items) (λ v. frames_bytes log_bytes v.items ≡ c.args.bytes.now) (λ v both. both.0)
    (frames_ok IsLog log_bytes log_at log_reader (λ v. v.items) c.args.bytes.now c.frames.result (λ i. omega (arith, c.type_inv.bytes i)) c.frames.ensures.gives)

pub returns-clause-valid : goal.returns-clause-valid
returns-clause-valid c =
    if_ok c.frames.result (λ v. (frames_bytes log_bytes v.items ≡ c.args.bytes.now) × AllByRecursion IsLog v.items) (λ v. All IsValidLog v.items)
    (λ v both. All-from_recursion IsValidLog v.items (each IsLog IsValidLog (λ log is. is.valid) v.items both.1))
    (frames_ok IsLog log_bytes log_at log_reader (λ v. v.items) c.args.bytes.now c.frames.result (λ i. omega (arith, c.type_inv.bytes i)) c.frames.ensures.gives)

pub returns-clause-in_range : goal.returns-clause-in_range
returns-clause-in_range c =
    if_ok c.frames.result (λ v. (frames_bytes log_bytes v.items ≡ c.args.bytes.now) × AllByRecursion IsLog v.items) (λ v. All LogInRange v.items)
    (λ v both. All-from_recursion LogInRange v.items (each IsLog LogInRange (λ log is. is.in_range) v.items both.1))
    (frames_ok IsLog log_bytes log_at log_reader (λ v. v.items) c.args.bytes.now c.frames.result (λ i. omega (arith, c.type_inv.bytes i)) c.frames.ensures.gives)

pub returns-clause-only : goal.returns-clause-only
returns-clause-only c logs valid range is =
    frames_only IsLog log_bytes log_at log_reader (λ v. v.items) c.args.bytes.now c.frames.result logs
    (each_both IsValidLog LogInRange IsLog (λ log one two. record { valid = one; in_range = two }) logs (recursion_from_All IsValidLog logs valid) (recursion_from_All LogInRange logs range))
    is c.frames.ensures.short c.frames.ensures.gives
