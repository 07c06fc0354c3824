use Rattle.job_files.proofs.Telling.{told}
use Rattle.job_files.proofs.lines.end_with.Goals as goal

pub returns-clause-line : goal.returns-clause-line
returns-clause-line g c = told c.put.result c.put.ensures.ok c.put.ensures.err c.put.ensures.cause.failed
