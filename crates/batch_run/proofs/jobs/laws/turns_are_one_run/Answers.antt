use Rattle.batch_run.proofs.jobs.OneRun.{one_run}
use Rattle.batch_run.proofs.jobs.laws.turns_are_one_run.Goals as goal

pub returns : goal.returns
returns c s limit held turns are = one_run s limit held turns are
