use Rattle.std.proofs.Common.{[]}
use Rattle.job_scan.proofs.Endings.{fault_writes, memory_ends, stopped}
use Rattle.job_scan.proofs.jobs.run_bytes.Goals as goal

pub returns-in_default-clause-wrote : goal.returns-in_default-clause-wrote
returns-in_default-clause-wrote g c = fault_writes _ _ _ c.end_with.result.0 _ c.end_with.ensures.line (λ front line. memory_ends _ _ [] _ front c.end_with.ensures.status line)

pub returns-in-Err-Memory-clause-wrote : goal.returns-in-Err-Memory-clause-wrote
returns-in-Err-Memory-clause-wrote g c =
    stopped _ _ _ _ c.end_with-in-Err-Memory.result.0 c.end_with-in-Err-Memory.ensures.status c.in-Err-Memory.ensures.later
    (rw (c.in-Ok.ensures.script, c.from.ensures, c.in-Err-Memory.field-0-is) at c.in-Err-Memory.ensures.wrote) c.end_with-in-Err-Memory.ensures.line
